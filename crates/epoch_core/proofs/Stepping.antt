-- An event that changes one part of the world is a step of the whole state.
use Rattle.std.proofs.{Common.{◌≡◌, ℕ, List, refl, sym, ap, subst, true}, lemmas.Result.{IfOk-weaker, on_err_weaker}}
use Rattle.std.specs.{Prelude.{IfOk, OnOk, OnErr, IsTrue, MatchOption, slice_get}, Option.{option_map, option_and_then}}
use Rattle.std.specs.declared.{option.Option.{Option, TheVariants.{None, Some}}, result.Result.{Result, TheVariants.{Ok, Err}}}
use Rattle.epoch_core.specs.{Blocks.Stepped, Blocks.changed_at, Worlds.MachineState, Worlds.World, Runs.Steps}
use Rattle.epoch_core.specs.declared.{step.Step.Step, events.Event.{Event, TheVariants.Reply}, session_states.SessionState.SessionState}
use Rattle.epoch_core.specs.Machine.{IsAnswered, Replies, move, question_in, step, takes_memory, to_reply, with_sessions, with_status}
use Rattle.epoch_core.specs.declared.states.Version.{Version}
use Rattle.epoch_core.specs.Worlds.{Answer}
use Rattle.block_reclamation.specs.declared.status.BlockStatus.{BlockStatus}
use Rattle.graph_types.proofs.Cases.{err_always}

pub stepped_in : {A W : Type 0} (put_in : A → W) (o : Option A) (outcome : Step) (old new : A) → Stepped o outcome old new
    → Stepped (option_map put_in o) outcome (put_in old) (put_in new)
stepped_in put_in None outcome old new is = (is.0, ap put_in is.1)
stepped_in put_in (Some after) outcome old new is = (is.0, ap put_in is.1)

pub steps_by : {A : Type 0} (old : MachineState) (e event : Event) (put_in : A → World) (o : Option A) (outcome : Step)
    (before after : A) → event ≡ e → step old.world e ≡ option_map put_in o → put_in before ≡ old.world
    → Replies old.world e old.replies old.replies → Stepped o outcome before after
    → Steps old event outcome (record { world = put_in after; replies = old.replies })
steps_by old e event put_in o outcome before after same does whole replies is =
    subst (λ x. Steps old x outcome (record { world = put_in after; replies = old.replies })) (sym same) (record {
      world = subst (λ q. Stepped q outcome old.world (put_in after)) (sym does)
          (subst (λ w. Stepped (option_map put_in o) outcome w (put_in after)) whole
          (stepped_in put_in o outcome before after is));
      replies = replies;
    })

-- a change of one block's status
pub changed_by : (old : MachineState) (e event : Event) (b : ℕ) (change : BlockStatus → Option BlockStatus) (outcome : Step)
    (status : List BlockStatus) → event ≡ e
    → step old.world e ≡ option_map (with_status old.world) (changed_at change old.world.status b)
    → Replies old.world e old.replies old.replies → Stepped (changed_at change old.world.status b) outcome old.world.status status
    → Steps old event outcome (record { world = with_status old.world status; replies = old.replies })
changed_by old e event b change outcome status same does replies is =
    steps_by old e event (with_status old.world) (changed_at change old.world.status b) outcome old.world.status status same does
    refl replies is

-- a move of one session
pub moved_by : (old : MachineState) (e event : Event) (s : ℕ) (change : SessionState → Option SessionState) (outcome : Step)
    (sessions : List SessionState) → event ≡ e → step old.world e ≡ move old.world s change
    → Replies old.world e old.replies old.replies
    → Stepped (changed_at change old.world.sessions s) outcome old.world.sessions sessions
    → Steps old event outcome (record { world = with_sessions old.world sessions; replies = old.replies })
moved_by old e event s change outcome sessions same does replies is =
    steps_by old e event (with_sessions old.world) (changed_at change old.world.sessions s) outcome old.world.sessions sessions same
    does refl replies is

-- What an event of one session leaves, whose call may run out of memory

pub record MayStep {E : Type 0} (old : MachineState) (event : Event) (r : Result Step E) (new : MachineState) : Type 0 where
  pub steps : IfOk r (λ outcome. Steps old event outcome new)
  pub unchanged : OnErr r (new ≡ old)
  pub memory : OnErr r (IsTrue (takes_memory event))

pub may_step : {E : Type 0} (old : MachineState) (e event : Event) (r : Result Step E) (new : MachineState) → event ≡ e
    → takes_memory e ≡ true → IfOk r (λ outcome. Steps old e outcome new) → OnErr r (new ≡ old) → MayStep old event r new
may_step old e event r new same takes steps unchanged = subst (λ x. MayStep old x r new) (sym same) (record {
  steps = steps;
  unchanged = unchanged;
  memory = err_always r _ takes;
})

-- a move of a session
pub may_move : {E : Type 0} (old : MachineState) (e event : Event) (s : ℕ) (change : SessionState → Option SessionState)
    (r : Result Step E) (sessions : List SessionState) → event ≡ e → takes_memory e ≡ true
    → step old.world e ≡ move old.world s change → Replies old.world e old.replies old.replies
    → IfOk r (λ outcome. Stepped (changed_at change old.world.sessions s) outcome old.world.sessions sessions)
    → OnErr r (sessions ≡ old.world.sessions)
    → MayStep old event r (record { world = with_sessions old.world sessions; replies = old.replies })
may_move old e event s change r sessions same takes does replies moves unchanged =
    may_step old e event r _ same takes
    (IfOk-weaker r _ (λ outcome. Steps old e outcome (record {
      world = with_sessions old.world sessions;
      replies = old.replies;
    })) (λ outcome is. moved_by old e e s change outcome sessions refl does replies is) moves)
    (on_err_weaker r (λ stay. ap (λ kept. record { world = with_sessions old.world kept; replies = old.replies }) stay) unchanged)

-- a session's reply
reply_steps : (old : MachineState) (s : ℕ) (outcome : Step) (sessions : List SessionState) (replies : List (List Answer))
    → Stepped (changed_at (to_reply old.world.opening old.world.versions) old.world.sessions s) outcome old.world.sessions sessions
    → Replies old.world (Reply s) old.replies replies
    → Steps old (Reply s) outcome (record { world = with_sessions old.world sessions; replies = replies })
reply_steps old s outcome sessions replies moves answered = record {
  world = stepped_in (with_sessions old.world) (changed_at (to_reply old.world.opening old.world.versions) old.world.sessions s)
      outcome old.world.sessions sessions moves;
  replies = answered;
}

pub may_reply : {E : Type 0} (old : MachineState) (event : Event) (s : ℕ) (versions : List Version) (r : Result Step E)
    (sessions : List SessionState) (replies : List (List Answer)) → event ≡ Reply s → versions ≡ old.world.versions
    → IfOk r (λ outcome. Stepped (changed_at (to_reply old.world.opening versions) old.world.sessions s) outcome
    old.world.sessions sessions)
    → OnOk r (MatchOption (option_and_then (question_in old.world.opening versions) (slice_get old.world.sessions s))
    (replies ≡ old.replies) (λ q. IsAnswered s q old.replies replies))
    → OnErr r (sessions ≡ old.world.sessions) → OnErr r (replies ≡ old.replies)
    → MayStep old event r (record { world = with_sessions old.world sessions; replies = replies })
may_reply old event s versions (Ok outcome) sessions replies same read moves answered stay still =
    may_step old (Reply s) event (Ok outcome) _ same refl
    (reply_steps old s outcome sessions replies
    (subst (λ v. Stepped (changed_at (to_reply old.world.opening v) old.world.sessions s) outcome old.world.sessions sessions)
    read moves)
    (subst (λ v. MatchOption (option_and_then (question_in old.world.opening v) (slice_get old.world.sessions s))
    (replies ≡ old.replies) (λ q. IsAnswered s q old.replies replies)) read answered)) tt
may_reply old event s versions (Err e) sessions replies same read moves answered stay still =
    may_step old (Reply s) event (Err e) _ same refl tt
    (λ i. record { world = with_sessions old.world (stay i); replies = still i })
