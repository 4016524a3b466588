use Rattle.std.proofs.Common.{◌≡◌, length}
use Rattle.epoch_core.specs.Blocks.{all_differ}
use Rattle.epoch_core.proofs.blocks.all_differ.Given as goal

abbrev pub invariant-loop-rest : goal.invariant-loop-rest
invariant-loop-rest l = all_differ l.rest ≡ all_differ l.blocks

abbrev pub decreases-loop-rest : goal.decreases-loop-rest
decreases-loop-rest l = length l.rest
