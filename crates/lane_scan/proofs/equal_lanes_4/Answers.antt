use Rattle.std.proofs.Common.{arith}
use Rattle.lane_scan.proofs.Lanes.{equal_lanes}
use Rattle.lane_scan.proofs.equal_lanes_4.Goals as goal

pub returns : goal.returns
returns c = λ place within. equal_lanes c.args.targets.now c.args.target 4 place c.requires (omega arith) within
