use Rattle.std.{proofs.Common.{◌≡◌, ◌≤◌, ◌-◌, ◌++◌, map, take, replicate}, specs.declared.option.Option.TheVariants.None}
use Rattle.block_reclamation.specs.Copies.{settled_number}
use Rattle.block_reclamation.proofs.copies.settled_numbers.Given as goal

abbrev pub invariant-loop-seat : goal.invariant-loop-seat
invariant-loop-seat l = record {
  copied : l.numbers ≡ map settled_number (take l.seat l.pins) ++ replicate (16 - l.seat) None;
  within : l.seat ≤ 16;
}

abbrev pub decreases-loop-seat : goal.decreases-loop-seat
decreases-loop-seat l = 16 - l.seat
