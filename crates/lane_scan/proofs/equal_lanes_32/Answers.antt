use Rattle.std.proofs.Common.{arith, refl, eqb, replicate, take}
use Rattle.lane_scan.proofs.Lanes.{equal_lanes, mask32_few, part_long}
use Rattle.lane_scan.proofs.equal_lanes_32.Goals as goal

pub overflow_cast-result : goal.overflow_cast-result
overflow_cast-result c = record {
  fits = mask32_few eqb (take 32 c.args.targets.now) (replicate 32 c.args.target) 32
      (part_long 32 c.args.targets.now (omega arith)) refl (omega arith);
}

pub returns : goal.returns
returns c = λ place within. equal_lanes c.args.targets.now c.args.target 32 place (omega arith) (omega arith) within
