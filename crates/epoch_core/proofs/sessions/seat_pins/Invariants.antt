use Rattle.std.{proofs.Common.{◌≡◌, ◌≤◌, ◌-◌, ◌++◌, length, map, take, replicate}, specs.declared.option.Option.TheVariants.None}
use Rattle.epoch_core.specs.Worlds.{seat_pin}
use Rattle.epoch_core.proofs.sessions.seat_pins.Given as goal

abbrev pub invariant-loop-seat : goal.invariant-loop-seat
invariant-loop-seat l = record {
  copied : l.pins ≡ map seat_pin (take l.seat l.sessions) ++ replicate (16 - l.seat) None;
  within : l.seat ≤ length l.sessions;
}

abbrev pub decreases-loop-seat : goal.decreases-loop-seat
decreases-loop-seat l = length l.sessions - l.seat
