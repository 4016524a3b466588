use Rattle.std.{proofs.Common.{◌≡◌, ◌-◌, ◌++◌, length, take, replicate}, specs.declared.option.Option.TheVariants.None}
use Rattle.desk.specs.Copies.{kept_pins}
use Rattle.desk.proofs.copies.KeptPins.of.Given as goal

abbrev pub invariant-loop-seat : goal.invariant-loop-seat
invariant-loop-seat l = record {
  there : length l.are_there ≡ 16;
  numbered : length l.numbers ≡ 16;
  copied : kept_pins l.are_there l.numbers ≡ take l.seat l.pins ++ replicate (16 - l.seat) None;
}
