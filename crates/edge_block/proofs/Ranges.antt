-- The weights and times of a block's edges are in range.
use Rattle.std.proofs.Common.{◌≡◌, ℕ, ◌<◌, List, [], ◌∷◌, length, get_or, map, arith}
use Rattle.std.proofs.lemmas.List.Elements.{All-cons, All-head, All-tail, All-map, All-filter}
use Rattle.std.specs.{Prelude.{filter, All}, declared.option.Option.{Option, TheVariants.{None, Some}}}
use Rattle.graph_types.specs.{View.in_view, declared.ids.Filter.Filter}
use Rattle.edge_block.specs.{Slots.{Slot, BlockView, IsSlot, IsStamp, edges_in, entry_in, entries_of}, Lending.lent_of}

-- the edge in a slot
pub stamp_in_range : (slots : List (Option Slot)) (i : ℕ) (e : Slot) → All IsSlot slots → i < length slots
    → get_or slots i None ≡ Some e → IsStamp e.stamp
stamp_in_range slots i e all within is = rw is at (all i None within)

-- all edges
pub edges_in_range : (slots : List (Option Slot)) → All IsSlot slots → All (λ e. IsStamp e.stamp) (edges_in slots)
edges_in_range [] all = λ k d within. absurd (omega arith)
edges_in_range (None ∷ slots) all = edges_in_range slots (All-tail IsSlot None slots all)
edges_in_range (Some e ∷ slots) all =
    All-cons (λ x. IsStamp x.stamp) e (edges_in slots) (All-head IsSlot (Some e) slots all)
    (edges_in_range slots (All-tail IsSlot (Some e) slots all))

-- the edges that a view lends
pub lent_in_range : (b : BlockView) (f : Filter) → All IsSlot b.slots
    → All (λ edge. IsStamp edge.stamp) (map lent_of (filter (in_view f) (entries_of b)))
lent_in_range b f all =
    All-map (λ edge. IsStamp edge.stamp) lent_of (filter (in_view f) (entries_of b))
    (All-filter (in_view f) (λ entry. IsStamp entry.1) (entries_of b)
    (All-map (λ entry. IsStamp entry.1) (entry_in b) (edges_in b.slots) (edges_in_range b.slots all)))
