use Rattle.std.proofs.Common.{take}
use Rattle.lane_scan.specs.Masks.{selected, AreBoundsOf}
use Rattle.lane_scan.proofs.bounds.Given as goal

abbrev pub invariant-loop-place : goal.invariant-loop-place
invariant-loop-place l = AreBoundsOf (selected l.mask (take l.place l.used)) l.found
