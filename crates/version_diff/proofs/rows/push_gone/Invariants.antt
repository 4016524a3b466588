use Rattle.std.proofs.Common.{◌≡◌, ◌++◌, drop}
use Rattle.graph_version.specs.Sharing.{block_values}
use Rattle.version_diff.specs.Differences.{seen_in, gone_among}
use Rattle.version_diff.proofs.rows.push_gone.Given as goal

abbrev pub invariant-loop-block : goal.invariant-loop-block
invariant-loop-block l =
    l.differences.items ++ gone_among l.source (seen_in l.view (block_values l.later)) (seen_in l.view (block_values (drop l.block-index l.earlier)))
    ≡ l.fn.differences.items ++ gone_among l.source (seen_in l.view (block_values l.later)) (seen_in l.view (block_values l.earlier))
