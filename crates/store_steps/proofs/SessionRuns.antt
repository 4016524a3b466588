-- A session that opens on the last version, or closes, and runs of all that is done.
use Rattle.std.proofs.Common.{◌≡◌, ℕ, true, false, List, [], ◌∷◌, ◌++◌, set, refl, sym, ap, subst, ◌∙◌}
use Rattle.std.proofs.lemmas.List.{set-set}
use Rattle.std.specs.{Prelude.slice_get, declared.option.Option.TheVariants.Some}
use Rattle.graph_types.proofs.ListPlaces.{set_same}
use Rattle.epoch_core.specs.{Machine.{with_sessions, step, to_pin, to_enter, to_settle, to_release}, Runs.{Runs, AllReplies, run}}
use Rattle.epoch_core.specs.{Worlds.{World, last_number, MachineState}, declared.events.Event.Event}
use Rattle.epoch_core.specs.declared.events.Event.TheVariants.{Pin, Enter, Settle, Release}
use Rattle.epoch_core.specs.declared.session_states.{Hold.Hold, SessionState.{SessionState, TheVariants.{Idle, Holding, Pinned}}}
use Rattle.epoch_core.proofs.{RunsTogether.{run_more, both_reply}, SessionSteps.changed_to}
use Rattle.store_steps.specs.Steps.{all_done}
use Rattle.store_steps.proofs.{Histories.done_is_run, Questions.then_done}

-- a session that is idle takes hold of the last version, and tells its number
pub opening_done : (w : World) (s : ℕ) → slice_get w.sessions s ≡ Some Idle
    → all_done (Pin s ∷ Enter s ∷ Settle s ∷ []) w
    ≡ Some (with_sessions w (set w.sessions s (Holding (record { pin = last_number w; settled = true; version = last_number w }))))
opening_done w s idle =
    let last = last_number w in
    let first : World = with_sessions w (set w.sessions s (Pinned w.floor)) in
    let unsettled : SessionState = Holding (record { pin = w.floor; settled = false; version = last }) in
    let settled : SessionState = Holding (record { pin = last; settled = true; version = last }) in
    let second : World = with_sessions w (set w.sessions s unsettled) in
    let third : World = with_sessions w (set w.sessions s settled) in
    let one : step w (Pin s) ≡ Some first = changed_to w s (to_pin w.floor) Idle (Pinned w.floor) idle refl in
    let two : step first (Enter s) ≡ Some second =
    changed_to first s (to_enter last) (Pinned w.floor) unsettled (set_same w.sessions s Idle (Pinned w.floor) idle) refl
    ∙ ap (λ xs. Some (with_sessions w xs)) (set-set w.sessions s (Pinned w.floor) unsettled) in
    let three : step second (Settle s) ≡ Some third =
    changed_to second s to_settle unsettled settled (set_same w.sessions s Idle unsettled idle) refl
    ∙ ap (λ xs. Some (with_sessions w xs)) (set-set w.sessions s unsettled settled) in
    then_done (Pin s) (Enter s ∷ Settle s ∷ []) w first third one
    (then_done (Enter s) (Settle s ∷ []) first second third two (then_done (Settle s) [] second third third three refl))

-- a session that holds a version lets go
pub closing_done : (w : World) (s : ℕ) (hold : Hold) → slice_get w.sessions s ≡ Some (Holding hold)
    → all_done (Release s ∷ []) w ≡ Some (with_sessions w (set w.sessions s Idle))
closing_done w s hold found =
    then_done (Release s) [] w (with_sessions w (set w.sessions s Idle)) (with_sessions w (set w.sessions s Idle))
    (changed_to w s to_release (Holding hold) Idle found refl) refl

-- events, and then others
pub runs_append : (start here there : MachineState) (es fs : List Event) → Runs start es here
    → all_done fs here.world ≡ Some there.world → AllReplies here.world fs here.replies there.replies → Runs start (es ++ fs) there
runs_append start here there es fs runs done replies = record {
  world = sym (done_is_run fs here.world there.world done) ∙ (ap (run fs) runs.world ∙ sym (run_more es fs start.world));
  replies = both_reply es fs start.world start.replies here.replies there.replies runs.replies
      (subst (λ w. AllReplies w fs here.replies there.replies) runs.world replies);
}
