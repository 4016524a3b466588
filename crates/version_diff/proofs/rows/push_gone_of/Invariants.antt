use Rattle.std.proofs.Common.{◌≡◌, ◌++◌}
use Rattle.edge_block.specs.Lending.{edges_left}
use Rattle.graph_version.specs.Sharing.{block_values}
use Rattle.version_diff.specs.Differences.{seen_in_block, seen_in, gone_among}
use Rattle.version_diff.proofs.rows.push_gone_of.Given as goal

abbrev pub invariant-loop-edge : goal.invariant-loop-edge
invariant-loop-edge l =
    l.differences.items ++ gone_among l.source (seen_in l.view (block_values l.later)) (edges_left l.edge-iterator)
    ≡ l.fn.differences.items ++ gone_among l.source (seen_in l.view (block_values l.later)) (seen_in_block l.view l.block)
