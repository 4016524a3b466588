use Rattle.std.proofs.Common.{◌≡◌, ◌≤◌, ◌-◌, length, replicate}
use Rattle.epoch_core.specs.declared.session_states.SessionState.TheVariants.{Idle}
use Rattle.epoch_core.proofs.start.idle_sessions.Given as goal

abbrev pub invariant-loop-sessions : goal.invariant-loop-sessions
invariant-loop-sessions l = record {
  copies : l.sessions.items ≡ replicate (length l.sessions.items) Idle;
  few : length l.sessions.items ≤ l.count;
}

abbrev pub decreases-loop-sessions : goal.decreases-loop-sessions
decreases-loop-sessions l = l.count - length l.sessions.items
