use Rattle.std.proofs.Common.{◌≡◌, length, take}
use Rattle.store_drive.proofs.sames.are_same.Given as goal

-- the rows so far are the same
abbrev pub invariant-loop-row : goal.invariant-loop-row
invariant-loop-row g l = take (length l.yielded) l.rows ≡ take (length l.yielded) l.others
