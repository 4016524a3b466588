use Rattle.std.proofs.Common.{◌≡◌, ◌++◌, take}
use Rattle.graph_version.specs.Sharing.{block_values}
use Rattle.version_diff.proofs.left.push_blocks.Given as goal

abbrev pub invariant-loop-block : goal.invariant-loop-block
invariant-loop-block l = block_values l.blocks.items ≡ block_values l.fn.blocks.items ++ block_values (take l.block-index l.more)
