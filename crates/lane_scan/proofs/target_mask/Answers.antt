use Rattle.std.proofs.Common.{arith}
use Rattle.lane_scan.proofs.Lanes.{live_targets}
use Rattle.lane_scan.proofs.target_mask.Goals as goal

pub returns-then-targets-ge4 : goal.returns-then-targets-ge4
returns-then-targets-ge4 c =
    live_targets c.args.targets.now c.args.live c.args.target c.equal_lanes_4.result 4 (omega arith) (omega arith)
    c.equal_lanes_4.ensures

pub returns-then-targets-eq32 : goal.returns-then-targets-eq32
returns-then-targets-eq32 c =
    live_targets c.args.targets.now c.args.live c.args.target c.equal_lanes_32.result 32 (omega arith)
    (omega (arith, c.ranges.live.fits)) c.equal_lanes_32.ensures
