use Rattle.std.proofs.Common.{◌≡◌, ◌+◌, length}
use Rattle.edge_block.specs.Lending.{edges_left}
use Rattle.version_columns.specs.Rows.{block_edges, columns, with_edges}
use Rattle.version_columns.proofs.rows.write_block.Given as goal

abbrev pub invariant-loop-edge : goal.invariant-loop-edge
invariant-loop-edge l = record {
  written : with_edges l.at (edges_left l.edge-iterator) (columns l.kinds l.targets l.weights l.firsts l.recents)
      ≡ with_edges l.fn.at (block_edges l.view l.block) (columns l.fn.kinds l.fn.targets l.fn.weights l.fn.firsts l.fn.recents);
  left : l.at + length (edges_left l.edge-iterator) ≡ l.fn.at + length (block_edges l.view l.block);
}
