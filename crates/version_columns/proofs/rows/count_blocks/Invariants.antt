use Rattle.std.proofs.Common.{◌≡◌, ◌+◌, ◌*◌, ◌≤◌, length, drop}
use Rattle.graph_version.specs.Sharing.{block_values}
use Rattle.version_columns.specs.Rows.{lent_edges_of}
use Rattle.version_columns.proofs.rows.count_blocks.Given as goal

abbrev pub invariant-loop-block : goal.invariant-loop-block
invariant-loop-block l = record {
  left : l.count + length (lent_edges_of l.view (block_values (drop l.block-index l.blocks)))
      ≡ length (lent_edges_of l.view (block_values l.blocks));
  few : l.count ≤ 32 * l.block-index;
}
