use Rattle.std.{proofs.Common.{◌≡◌, map, length, replicate}, specs.Prelude.{None, Some}}
use Rattle.script_commands.proofs.slots.Slots.new.Given as goal

abbrev pub invariant-loop-seat : goal.invariant-loop-seat
invariant-loop-seat l =
    (l.free.items ≡ map (λ s. Some s) l.yielded) × (l.sessions.items ≡ replicate (length l.yielded) None)
