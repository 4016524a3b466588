use Rattle.std.proofs.Common.{◌≡◌, ◌+◌, length, drop}
use Rattle.version_columns.specs.Rows.{turned_edges, columns, with_edges}
use Rattle.version_columns.proofs.into.write_shown.Given as goal

abbrev pub invariant-loop-edge : goal.invariant-loop-edge
invariant-loop-edge l = record {
  written : with_edges l.at (turned_edges l.view (drop l.edge-index l.edges)) (columns l.kinds l.sources l.weights l.firsts l.recents)
      ≡ with_edges 0 (turned_edges l.view l.edges) (columns l.fn.kinds l.fn.sources l.fn.weights l.fn.firsts l.fn.recents);
  left : l.at + length (turned_edges l.view (drop l.edge-index l.edges)) ≡ length (turned_edges l.view l.edges);
}
