use Rattle.std.{proofs.Common.{◌<◌, ◌≤◌, ◌+◌, ℕ, All, length}, specs.Prelude.{sum, IsTrue}}
use Rattle.graph_types.specs.{Graph.Graph, Arcs.AreNeighbors, Arcs.at, declared.ids.Filter.Filter}
use Rattle.graph_cores.specs.{Rows.neighbor_row, Peel.IsPeeling, Peel.is_alive}
use Rattle.graph_cores.proofs.peeling.peel_level.Given as goal

abbrev pub invariant-loop-vertex : goal.invariant-loop-vertex
invariant-loop-vertex l = record {
  within : All (λ w. w < length l.fn.cores) l.stack.items;
  shrinks : (v : ℕ) → (IsTrue (is_alive l.alive v) → IsTrue (is_alive l.fn.alive v)) × (at l.degrees v ≤ at l.fn.degrees v);
  peeling : (f : Filter) (g : Graph) → AreNeighbors f g (neighbor_row l.rows)
      → IsPeeling f g (length l.fn.cores) (neighbor_row l.rows) l.fn.alive l.fn.degrees l.fn.cores l.fn.stack.items l.k
      → IsPeeling f g (length l.fn.cores) (neighbor_row l.rows) l.alive l.degrees l.cores l.stack.items l.k;
}

abbrev pub decreases-loop-vertex : goal.decreases-loop-vertex
decreases-loop-vertex l = sum l.degrees + length l.stack.items
