use Rattle.std.proofs.Common.{◌≡◌, ◌-◌, ◌^◌, length, min, take}
use Rattle.epoch_core.specs.Runs.{Runs, done_in}
use Rattle.epoch_core.proofs.machine.run.Given as goal

abbrev pub invariant-loop-event : goal.invariant-loop-event
invariant-loop-event l = record {
  ran : Runs l.initial.core (take l.event-index l.events) l.core;
  count : l.done ≡ min (done_in (take l.event-index l.events) l.initial.core.world) (2 ^ 32 - 1);
  sessions : length l.core.world.sessions ≡ length l.initial.core.world.sessions;
}
