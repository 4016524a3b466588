-- The steps of the store's calls inside whole runs of the machine.
use Rattle.std.proofs.Common.{◌≡◌, ℕ, inl, inr, [], ◌∷◌, get_or, set, refl, sym, ap, subst, ◌∙◌}
use Rattle.std.{proofs.lemmas.Bool.cases_eq, specs.Option.{unwrap_or, option_and_then}}
use Rattle.std.specs.declared.option.Option.{Option, TheVariants.{None, Some}}
use Rattle.epoch_core.specs.declared.session_states.SessionState.{SessionState}
use Rattle.epoch_core.specs.{declared.session_states.SessionState.TheVariants.Idle, Runs.run, Worlds.{seat_pin, World}}
use Rattle.epoch_core.specs.{Worlds.{session_of, last_number}, Machine.{step, to_enter, to_ask, to_read, to_reply}}
use Rattle.epoch_core.proofs.Moves.{Moved, moved, session_after, session_else}
use Rattle.block_reclamation.specs.Board.{BoardState}
use Rattle.epoch_core.proofs.SessionSteps.{keeps_enter, keeps_ask, keeps_reading, keeps_reply}
use Rattle.store_steps.specs.{Desks.DeskView, Shown.ShowsWorld, Boards.ShowsBoard, Steps.all_done}
use Rattle.store_steps.{specs.Histories.DoneIsRun, specs.Histories.ReadersAreUnseen, proofs.BoardSteps.shows_sessions}

pub done_is_run : DoneIsRun
done_is_run [] w after is = cc
done_is_run (e ∷ es) w after is =
    elim (step w e) as (λ o. step w e ≡ o → option_and_then (all_done es) o ≡ Some after → run es (unwrap_or o w) ≡ after) [
      | None ↦ λ at h. cc
      | Some next ↦ λ at h. done_is_run es next after h
    ] refl is

-- a session's move that keeps its pin is unseen
unseen : (d : DeskView) (b : BoardState) (w after : World) (s : ℕ) (change : SessionState → Option SessionState)
    → Moved w s change after → ((session next : SessionState) → change session ≡ Some next → seat_pin next ≡ seat_pin session)
    → ShowsWorld d w → ShowsBoard b w → ShowsWorld d after × ShowsBoard b after × (after.copy ≡ w.copy)
unseen d b w after s change m keeps shown shows = (
  subst (ShowsWorld d) (sym m.result) (shows_sessions d w (set w.sessions s m.next) shown),
  record {
    floor = ap (λ v. v.floor) m.result ∙ shows.floor;
    pins = λ t. ap (λ v. seat_pin (session_of v t)) m.result ∙ elim (cases_eq t s) [
      | inl e ↦
          ap (λ r. seat_pin (get_or (set w.sessions s m.next) r Idle)) e
          ∙ ap seat_pin (session_after w s m.session m.next m.found) ∙ keeps m.session m.next m.changed
          ∙ ap seat_pin (sym m.at) ∙ ap (λ r. seat_pin (session_of w r)) (sym e) ∙ shows.pins t
      | inr ne ↦ ap seat_pin (session_else w s t m.next ne) ∙ shows.pins t
    ];
  },
  ap (λ v. v.copy) m.result,
)

pub readers_are_unseen : ReadersAreUnseen
readers_are_unseen = record {
  enter = λ s d b w after is. unseen d b w after s (to_enter (last_number w)) (moved w s (to_enter (last_number w)) after is)
      (keeps_enter (last_number w));
  ask = λ s request d b w after is. unseen d b w after s (to_ask request) (moved w s (to_ask request) after is)
      (keeps_ask request);
  read = λ s d b w after is. unseen d b w after s (to_read w.opening w.heap w.versions)
      (moved w s (to_read w.opening w.heap w.versions) after is) (keeps_reading w);
  reply = λ s d b w after is. unseen d b w after s (to_reply w.opening w.versions)
      (moved w s (to_reply w.opening w.versions) after is) (keeps_reply w.opening w.versions);
}
