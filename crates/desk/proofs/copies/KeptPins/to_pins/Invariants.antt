use Rattle.std.{proofs.Common.{◌≡◌, ◌-◌, ◌++◌, take, replicate}, specs.declared.option.Option.TheVariants.None}
use Rattle.desk.proofs.copies.KeptPins.to_pins.Given as goal

abbrev pub invariant-loop-seat : goal.invariant-loop-seat
invariant-loop-seat l = l.pins ≡ take l.seat l.self ++ replicate (16 - l.seat) None
