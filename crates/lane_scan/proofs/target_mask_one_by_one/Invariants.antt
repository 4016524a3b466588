use Rattle.lane_scan.{specs.Masks.IsPlaceOf, proofs.Windows.IsJudged}
use Rattle.lane_scan.proofs.target_mask_one_by_one.Given as goal

abbrev pub invariant-loop-place : goal.invariant-loop-place
invariant-loop-place l = IsJudged (IsPlaceOf l.targets l.live l.target) l.held l.place
