use Rattle.std.proofs.Common.{◌≡◌, ◌<◌, ℕ, length}
use Rattle.graph_types.specs.Arcs.{at}
use Rattle.graph_cores.specs.Rows.{neighbor_row}
use Rattle.graph_cores.proofs.peeling.lengths.Given as goal

abbrev pub invariant-loop-vertex : goal.invariant-loop-vertex
invariant-loop-vertex l = record {
  long : length l.degrees.items ≡ l.vertex;
  each : (v : ℕ) → v < l.vertex → at l.degrees.items v ≡ length (neighbor_row l.rows v);
}
