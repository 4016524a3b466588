-- What a row leaves at the batch's end.
use Rattle.std.specs.{Prelude.{ℕ, List, [], ◌∷◌, map, flat_map, ◌&&◌, not, if◌then◌else◌}, Option.option_to_list}
use Rattle.edge_block.specs.{Slots.BlockView, Rows.{has_none, shape_of}}
pub use Rattle.graph_version.specs.Drafts.{row_values}
use Rattle.batch_shards.specs.{declared.{row_blocks.RowBlock.RowBlock, shard.OpenRow.OpenRow}, RowBlocks.block_of}

-- the row's block of the next version
abbrev pub after_here : RowBlock → List BlockView
after_here h = if h.touched && has_none (shape_of (block_of h.block)) then [] else block_of h.block ∷ []

-- a block of the version before that stays in the row
abbrev pub stays_here : RowBlock → List BlockView
stays_here h = if h.touched then [] else block_of h.block ∷ []

-- a fresh block that the row keeps
abbrev pub written_here : RowBlock → List BlockView
written_here h = if h.touched && not (has_none (shape_of (block_of h.block))) then block_of h.block ∷ [] else []

-- a block of the version before that the row no longer has
abbrev pub dropped_here : RowBlock → List BlockView
dropped_here h = if h.touched then map block_of (option_to_list h.before) else []

-- the number of a fresh block that the row doesn't keep
abbrev pub unused_here : RowBlock → List ℕ
unused_here h = if h.touched && has_none (shape_of (block_of h.block)) then (block_of h.block).number ∷ [] else []

abbrev pub after_of : List RowBlock → List BlockView
after_of row = flat_map after_here row

abbrev pub stays_of : List RowBlock → List BlockView
stays_of row = flat_map stays_here row

abbrev pub written_of : List RowBlock → List BlockView
written_of row = flat_map written_here row

abbrev pub dropped_of : List RowBlock → List BlockView
dropped_of row = flat_map dropped_here row

abbrev pub unused_of : List RowBlock → List ℕ
unused_of row = flat_map unused_here row

abbrev pub closed_rows : List OpenRow → List (ℕ × List BlockView)
closed_rows work = map (λ r. (r.source.0, after_of r.blocks.items)) work

abbrev pub stays_all : List OpenRow → List BlockView
stays_all work = flat_map (λ r. stays_of r.blocks.items) work

abbrev pub written_blocks : List OpenRow → List BlockView
written_blocks work = flat_map (λ r. written_of r.blocks.items) work

abbrev pub dropped_all : List OpenRow → List BlockView
dropped_all work = flat_map (λ r. dropped_of r.blocks.items) work

abbrev pub unused_all : List OpenRow → List ℕ
unused_all work = flat_map (λ r. unused_of r.blocks.items) work
