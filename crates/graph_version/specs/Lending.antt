-- Edges and block numbers as a version lends them.
use Rattle.std.specs.{Prelude.{ℕ, List, [], ◌++◌, map, drop, flat_map}, FinMap.get, declared.option.Option.Option}
use Rattle.std.specs.declared.option.Option.TheVariants.{None, Some}
use Rattle.edge_block.specs.{Slots.{BlockView, entries_of}, Lending.{LentEdge, lent_of, edges_left}}
use Rattle.edge_block.specs.declared.blocks.BlockIter.{BlockIter}
use Rattle.graph_version.specs.{Rows.{blocks_of, numbers_of}, Sharing.block_values}
use Rattle.graph_version.specs.{Versions.{VersionView, content}, Edges.lent_to, declared.lending.RowIter.RowIter}
use Rattle.graph_version.specs.declared.lending.BlockNumbers.{BlockNumbers}

-- the content's edge of a kind from a source to a target, as it is lent
abbrev pub lent_at : VersionView → ℕ → ℕ → ℕ → Option LentEdge
lent_at v kind source target = lent_to kind target
    (get (content v).edges (record { kind = kind; source = source; target = target }))

-- the edges of blocks, block by block, slots rising
abbrev pub lent_in_blocks : List BlockView → List LentEdge
lent_in_blocks blocks = flat_map (λ b. map lent_of (entries_of b)) blocks

abbrev pub left_in : Option BlockIter → List LentEdge
left_in None = []
left_in (Some edges) = edges_left edges

-- the edges that are still to be lent: what is left of a block, and the blocks after it
abbrev pub row_left : RowIter → List LentEdge
row_left it = left_in it.edges ++ lent_in_blocks (block_values it.blocks.now)

-- the block numbers that are still to be given: of what is left of a row, and of the rows after it
abbrev pub numbers_left : BlockNumbers → List ℕ
numbers_left it = numbers_of (block_values it.blocks.now) ++ numbers_of (blocks_of (drop it.source it.rows.now))
