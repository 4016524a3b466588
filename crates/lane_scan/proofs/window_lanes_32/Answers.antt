use Rattle.std.proofs.Common.{arith, refl, leb, replicate, take}
use Rattle.lane_scan.proofs.Lanes.{from_lanes, to_lanes, in_both, mask64_few, part_long}
use Rattle.lane_scan.proofs.window_lanes_32.Goals as goal

pub overflow_cast-from : goal.overflow_cast-from
overflow_cast-from c = record {
  fits = mask64_few leb (replicate 32 c.args.lo) (take 32 c.args.times.now) 32
      refl (part_long 32 c.args.times.now (omega arith)) (omega arith);
}

pub overflow_cast-to : goal.overflow_cast-to
overflow_cast-to c = record {
  fits = mask64_few leb (take 32 c.args.times.now) (replicate 32 c.args.hi) 32
      (part_long 32 c.args.times.now (omega arith)) refl (omega arith);
}

pub returns : goal.returns
returns c = λ place within.
    let from = from_lanes c.args.times.now c.args.lo 32 place (omega arith) (omega arith) within in
    let to = to_lanes c.args.times.now c.args.hi 32 place (omega arith) (omega arith) within in
    let both = in_both _ _ place in
    ((λ set. (from.0 (both.0 set).0, to.0 (both.0 set).1)), (λ h. both.1 (from.1 h.0, to.1 h.1)))
