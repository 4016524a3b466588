use Rattle.std.proofs.Common.{◌≡◌, take}
use Rattle.graph_version.specs.{Sharing.block_values, Ages.old_blocks}
use Rattle.graph_version.proofs.row.old_blocks_in.Given as goal

abbrev pub invariant-loop-block : goal.invariant-loop-block
invariant-loop-block l = l.count ≡ old_blocks l.time (block_values (take l.block-index l.blocks))
