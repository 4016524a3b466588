use Rattle.std.proofs.Common.{arith}
use Rattle.lane_scan.proofs.Lanes.{live_within}
use Rattle.lane_scan.proofs.window_mask.Goals as goal

pub returns-then-times-ge8 : goal.returns-then-times-ge8
returns-then-times-ge8 c =
    live_within c.args.times.now c.args.live c.args.lo c.args.hi c.window_lanes_8.result 8 (omega arith) (omega arith)
    c.window_lanes_8.ensures

pub returns-then-times-eq32 : goal.returns-then-times-eq32
returns-then-times-eq32 c =
    live_within c.args.times.now c.args.live c.args.lo c.args.hi c.window_lanes_32.result 32 (omega arith)
    (omega (arith, c.ranges.live.fits)) c.window_lanes_32.ensures
