use Rattle.std.proofs.Common.{◌≡◌, ◌<◌, All, [], length}
use Rattle.graph_types.specs.{Graph.Graph, Arcs.AreNeighbors, declared.ids.Filter.Filter}
use Rattle.graph_cores.specs.{Rows.neighbor_row, Peel.IsBetween}
use Rattle.graph_cores.proofs.peeling.rounds.Given as goal

abbrev pub invariant-loop-k : goal.invariant-loop-k
invariant-loop-k l = record {
  empty : l.stack.items ≡ [];
  within : All (λ w. w < length l.fn.cores) l.left.items;
  between : (f : Filter) (g : Graph) → AreNeighbors f g (neighbor_row l.rows)
      → IsBetween f g (length l.fn.cores) (neighbor_row l.rows) l.alive l.degrees l.cores l.left.items l.k;
}
