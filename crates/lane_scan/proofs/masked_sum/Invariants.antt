use Rattle.std.proofs.Common.{◌≡◌, ◌*◌, ◌^◌, ◌≤◌, take, pos, ◌+ℤ◌, fold, nat_abs}
use Rattle.lane_scan.specs.Masks.{selected}
use Rattle.lane_scan.proofs.masked_sum.Given as goal

abbrev pub invariant-loop-place : goal.invariant-loop-place
invariant-loop-place l =
    (l.sum ≡ fold ◌+ℤ◌ (pos 0) (selected l.mask (take l.place l.weights))) × (nat_abs l.sum ≤ 2 ^ 40 * l.place)
