use Rattle.std.proofs.Common.{◌≡◌, ◌+◌, length, drop}
use Rattle.graph_version.specs.Sharing.{block_values}
use Rattle.version_columns.specs.Rows.{lent_edges_of, columns, with_edges}
use Rattle.version_columns.proofs.rows.write_blocks.Given as goal

abbrev pub invariant-loop-block : goal.invariant-loop-block
invariant-loop-block l = record {
  written : with_edges l.at (lent_edges_of l.view (block_values (drop l.block-index l.blocks)))
      (columns l.kinds l.targets l.weights l.firsts l.recents)
      ≡ with_edges l.fn.at (lent_edges_of l.view (block_values l.blocks))
      (columns l.fn.kinds l.fn.targets l.fn.weights l.fn.firsts l.fn.recents);
  left : l.at + length (lent_edges_of l.view (block_values (drop l.block-index l.blocks)))
      ≡ l.fn.at + length (lent_edges_of l.view (block_values l.blocks));
}
