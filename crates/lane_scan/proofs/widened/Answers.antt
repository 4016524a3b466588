use Rattle.lane_scan.proofs.Selected.{bounds_push}
use Rattle.lane_scan.proofs.widened.Goals as goal

pub returns-in-Some : goal.returns-in-Some
returns-in-Some c = λ values h. bounds_push values c.args.time c.in-Some.least c.in-Some.greatest _ _ c.min.ensures c.max.ensures
    (rw c.in-Some.is at h)
