use Rattle.std.proofs.Common.{◌≡◌, ◌+◌, ◌≤◌, length, drop}
use Rattle.version_columns.specs.Rows.{turned_edges}
use Rattle.version_columns.proofs.into.count_shown.Given as goal

abbrev pub invariant-loop-edge : goal.invariant-loop-edge
invariant-loop-edge l = record {
  left : l.count + length (turned_edges l.view (drop l.edge-index l.edges)) ≡ length (turned_edges l.view l.edges);
  few : l.count ≤ l.edge-index;
}
