use Rattle.lane_scan.{specs.Masks.IsPlaceWithin, proofs.Windows.IsJudged}
use Rattle.lane_scan.proofs.window_mask_one_by_one.Given as goal

abbrev pub invariant-loop-place : goal.invariant-loop-place
invariant-loop-place l = IsJudged (IsPlaceWithin l.used l.live l.lo l.hi) l.within l.place
