-- One turn of the loop over the edges that a block lends.
use Rattle.std.proofs.Common.{◌≡◌, ℕ, List, [], ◌∷◌, length, ap, subst}
use Rattle.graph_types.specs.{Degrees.CountsEdge, declared.ids.Degree.Degree, declared.ids.Filter.Filter}
use Rattle.edge_block.specs.{Slots.BlockView, Slots.IsStamp, Lending.LentEdge}
use Rattle.edge_block.proofs.LentEntries.{edge_lent, edges_lent}
use Rattle.graph_cores.{specs.Tallies.{edge_between, shown_block, HasTallyRoom}, proofs.Parts.{IsBegun, begun_room, begun_more}}
use Rattle.graph_cores.proofs.Counting.{IsCountable, countable, counts_edge}

module _ (f : Filter) (b : BlockView) (old table : List Degree) (left rest : List LentEdge) (l : LentEdge)
    (next : left ≡ l ∷ rest)
    (long : length table ≡ length old) (room : HasTallyRoom f (shown_block f b) old)
    (begun : IsBegun f (shown_block f b) (edges_lent b.source left) old table) where
  pub next_room : IsCountable f (edge_lent b.source l) table
  next_room = countable f (edge_lent b.source l) table
      (begun_room f (shown_block f b) (edges_lent b.source left) (edge_lent b.source l ∷ []) (edges_lent b.source rest) old table
      (ap (edges_lent b.source) next) long room begun)

  pub next_begun : (new : List Degree) (source : ℕ) → source ≡ b.source → IsStamp l.stamp
      → CountsEdge (edge_between source l.target l.stamp.weight) table new
      → IsBegun f (shown_block f b) (edges_lent b.source rest) old new
  next_begun new source same stamp counts =
      let here : CountsEdge (edge_between b.source l.target l.stamp.weight) table new =
      subst (λ s. CountsEdge (edge_between s l.target l.stamp.weight) table new) same counts in
      begun_more f (shown_block f b) (edges_lent b.source left) (edge_lent b.source l ∷ [])
      (edges_lent b.source rest) old table new (ap (edges_lent b.source) next)
      (counts_edge f (edge_lent b.source l) table new next_room.shown stamp
      (record { size = here.size; at = λ v d h. here.at v d h }))
      begun
