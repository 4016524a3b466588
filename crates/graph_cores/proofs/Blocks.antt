-- The edges that blocks lend under a filter.
use Rattle.std.proofs.Common.{◌≡◌, ℕ, ◌+◌, ◌<◌, List, [], ◌∷◌, ◌++◌, length, get_or, map, drop, add-one, drop-cons, refl, ap, ◌∙◌}
use Rattle.std.{proofs.{Common.arith, lemmas.List.Elements.filter-append}, specs.{Prelude.filter, declared.sync.Arc.Arc}}
use Rattle.std.{specs.declared.alloc.Global.Global, proofs.lemmas.Grind.common_steps}
use Rattle.graph_types.specs.{View.in_view, declared.ids.Filter.Filter}
use Rattle.edge_block.specs.Slots.{Slot, BlockView, edges_in, entry_in, entries_of}
use Rattle.edge_block.specs.{Lending.LentEdge, Lending.lent_of, declared.blocks.Block.Block}
use Rattle.edge_block.proofs.LentEntries.{edges_lent}
use Rattle.graph_version.specs.{Sharing.{block_value, block_values}, Edges.edge_from}
use Rattle.graph_cores.specs.Tallies.{passes, shown_block, shown_edges}

lent_slots : (f : Filter) (b : BlockView) (es : List Slot)
    → edges_lent b.source (map lent_of (filter (in_view f) (map (entry_in b) es)))
    ≡ filter (passes f) (map edge_from (map (entry_in b) es))
lent_slots f b [] = refl
lent_slots f b (e ∷ es) = grind (arith, common_steps, lent_slots f b es)

-- what a block lends is what it shows
pub lent_block : (f : Filter) (b : BlockView) (lent : List LentEdge) → lent ≡ map lent_of (filter (in_view f) (entries_of b))
    → edges_lent b.source lent ≡ shown_block f b
lent_block f b lent same = ap (edges_lent b.source) same ∙ lent_slots f b (edges_in b.slots)

-- the blocks that are left begin with the next one
pub next_block : (f : Filter) (blocks : List (Arc Block Global)) (i : ℕ) (d : Arc Block Global) → i < length blocks
    → shown_edges f (block_values (drop i blocks)) ≡ shown_block f (block_value (get_or blocks i d))
    ++ shown_edges f (block_values (drop (i + 1) blocks))
next_block f blocks i d lt = grind (arith, common_steps, add-one, drop-cons, filter-append)
