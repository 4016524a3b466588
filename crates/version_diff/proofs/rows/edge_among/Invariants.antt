use Rattle.std.proofs.Common.{◌≡◌, drop}
use Rattle.graph_version.specs.Sharing.{block_values}
use Rattle.version_diff.specs.Differences.{seen_in, edge_to}
use Rattle.version_diff.proofs.rows.edge_among.Given as goal

abbrev pub invariant-loop-block : goal.invariant-loop-block
invariant-loop-block l = edge_to (seen_in l.view (block_values (drop l.block-index l.blocks))) l.kind.0 l.target
    ≡ edge_to (seen_in l.view (block_values l.blocks)) l.kind.0 l.target
