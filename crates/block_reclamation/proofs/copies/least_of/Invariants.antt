use Rattle.std.proofs.Common.{◌≡◌, drop}
use Rattle.block_reclamation.specs.Copies as copies
use Rattle.block_reclamation.proofs.copies.least_of.Given as goal

abbrev pub invariant-loop-pin : goal.invariant-loop-pin
invariant-loop-pin l = copies.least_of l.least (drop l.pin-index l.pins) ≡ copies.least_of l.last l.pins
