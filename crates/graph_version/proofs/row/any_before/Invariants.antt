use Rattle.std.proofs.Common.{◌≡◌, false, take}
use Rattle.graph_version.specs.{Ages.is_old_row, Sharing.block_values}
use Rattle.graph_version.proofs.row.any_before.Given as goal

abbrev pub invariant-loop-block : goal.invariant-loop-block
invariant-loop-block l = is_old_row l.time (block_values (take l.block-index l.blocks)) ≡ false
