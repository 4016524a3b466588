use Rattle.std.proofs.Common.{◌≡◌, length}
use Rattle.epoch_core.specs.Posting.{keys_differ}
use Rattle.epoch_core.proofs.contents.keys_differ.Given as goal

abbrev pub invariant-loop-rest : goal.invariant-loop-rest
invariant-loop-rest l = keys_differ l.rest ≡ keys_differ l.edges

abbrev pub decreases-loop-rest : goal.decreases-loop-rest
decreases-loop-rest l = length l.rest
