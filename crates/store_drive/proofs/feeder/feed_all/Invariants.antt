use Rattle.std.proofs.Common.{◌≡◌, ◌+◌, length}
use Rattle.store_drive.specs.Load.{AreAnswered}
use Rattle.store_drive.proofs.feeder.feed_all.Given as goal

-- what the batches so far were answered with
abbrev pub invariant-loop-number : goal.invariant-loop-number
invariant-loop-number g l = record { count : length l.earlier.items + 1 ≡ l.number; earlier : AreAnswered l.earlier.items }
