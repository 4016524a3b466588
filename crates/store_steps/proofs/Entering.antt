-- A pinned session enters the last version, if that is the one that it settles at.
use Rattle.std.proofs.Common.{◌≡◌, ℕ, ◌<◌, ◌≤◌, false, inl, inr, List, [], ◌∷◌, ◌++◌, refl, Option, Some, None}
use Rattle.std.proofs.Common.{sym, ap, subst, ◌∙◌, arith}
use Rattle.std.proofs.lemmas.Bool.{cases_eq}
use Rattle.graph_types.proofs.Cases.{none_not, unsome}
use Rattle.epoch_core.specs.{declared.events.Event.TheVariants.Enter, declared.session_states.Hold.Hold}
use Rattle.epoch_core.specs.declared.session_states.SessionState.{SessionState}
use Rattle.epoch_core.specs.declared.session_states.SessionState.TheVariants.{Idle, Pinned, Holding, Asking}
use Rattle.epoch_core.specs.{Runs.run, Worlds.{World, IsStart, last_number}, Machine.to_enter}
use Rattle.epoch_core.proofs.SessionSteps.{within, pinned_not_idle, holding_not, idle_not, asking_not}
use Rattle.store_steps.specs.{Reached.IsReached, Merges.{Call, Enters}}
use Rattle.store_steps.proofs.{SeatCalls.{entry_of, place_on}, Reached.{stays_reached, same_count}}
use Rattle.store_steps.proofs.Stages.{Seated, seated, Stands, Merging, IsOneSeat, Stage, last_of, session_at, view_of}
use Rattle.store_steps.proofs.Stages.{seat_view, IsStage, Onward}

-- An entry

-- a pinned session's next entry comes later than the last version
abbrev pub Awaits : ℕ → List Call → SessionState → Type 0
Awaits last cs session = (pin : ℕ) → session ≡ Pinned pin → (n : ℕ) → entry_of cs ≡ Some n → last < n

pub record Entered (m : Merging) (seat : ℕ) (st : Stage) : Type 0 where
  pub there : Stage
  pub onward : Onward m seat st there
  pub calls_same : there.calls seat ≡ st.calls seat
  pub awaits : Awaits (last_of there) (there.calls seat) (session_at m.start.world there seat)

stays : (m : Merging) (seat : ℕ) (st : Stage) → IsStage m st → Onward m seat st st
stays m seat st k = record {
  stage = k;
  desk_same = refl;
  calls = λ t differ. refl;
  sessions = λ t differ. refl;
  back = λ o. o;
}

not_entering : (m : Merging) (seat : ℕ) (st : Stage) → IsStage m st
    → Awaits (last_of st) (st.calls seat) (session_at m.start.world st seat) → Entered m seat st
not_entering m seat st k awaits =
    record { there = st; onward = stays m seat st k; calls_same = refl; awaits = awaits }

abbrev entered_stage : Stage → ℕ → Stage
entered_stage st seat = record { events = st.events ++ Enter seat ∷ []; store = st.store; calls = st.calls }

-- a pinned session enters the last version
entering : (m : Merging) (seat : ℕ) (st : Stage) (pin : ℕ) → IsStart m.start → IsStage m st
    → session_at m.start.world st seat ≡ Pinned pin
    → entry_of (st.calls seat) ≡ Some (last_of st) → Entered m seat st
entering m seat st pin is_start k is next =
    let w : World = run st.events m.start.world in
    let hold : Hold = record { pin = pin; settled = false; version = last_number w } in
    let done : Seated m.start.world (record { events = st.events; event = Enter seat; seat = seat; next = Holding hold }) =
    seated m.start.world st.events (Enter seat) seat (to_enter (last_number w)) (Pinned pin) (Holding hold) refl
    (within w seat (λ idle. pinned_not_idle pin (sym is ∙ idle))) is refl in
    let reached : IsReached m.start.world (st.events ++ Enter seat ∷ []) st.store =
    (stays_reached m.start is_start).enter seat st.store st.events k.reached in
    let mine = k.seats seat in
    record {
      there = entered_stage st seat;
      onward = record {
        stage = record {
          reached = reached;
          board = k.board;
          desk_calls = k.desk_calls;
          raises = k.raises;
          ends = k.ends;
          seats = λ t. elim (cases_eq t seat) [
            | inl same ↦
                subst (λ u. IsOneSeat m (seat_view m (entered_stage st seat) u)) (sym same)
                (subst (λ s. IsOneSeat m (view_of m.seen (last_of st) (place_on st.store.board seat) s (st.calls seat)))
                (sym done.here)
                (record {
                  least = mine.least;
                  are = mine.are;
                  entries = mine.entries;
                  ready = mine.ready;
                  stands = λ unsettled_is. next ∙ ap Some (sym (same_count st.store.desk w k.reached.desk));
                }))
            | inr differ ↦
                subst (λ s. IsOneSeat m (view_of m.seen (last_of st) (place_on st.store.board t) s (st.calls t)))
                (sym (done.others t differ)) (k.seats t)
          ];
        };
        desk_same = refl;
        calls = λ t differ. refl;
        sessions = λ t differ. done.others t differ;
        back = λ o. record {
          order = Enters seat ∷ o.order;
          desk_order = o.desk_order;
          seat_order = o.seat_order;
          copies = o.copies;
          runs = λ replies. (k.reached, tt, done.done, (replies, refl, refl), o.runs replies);
        };
      };
      calls_same = refl;
      awaits = λ other pinned. absurd (holding_not hold other (sym done.here ∙ pinned));
    }

-- each session that may enter the last version does
pub enter_if : (m : Merging) (seat : ℕ) (st : Stage) → IsStart m.start → IsStage m st → Entered m seat st
enter_if m seat st is_start k =
    by_session (session_at m.start.world st seat) refl (entry_of (st.calls seat)) refl
  where
    by_session : (session : SessionState) → session_at m.start.world st seat ≡ session → (entry : Option ℕ)
        → entry_of (st.calls seat) ≡ entry → Entered m seat st
    by_session Idle is entry next = not_entering m seat st k (λ pin pinned. absurd (idle_not pin (sym is ∙ pinned)))
    by_session (Holding hold) is entry next =
        not_entering m seat st k (λ pin pinned. absurd (holding_not hold pin (sym is ∙ pinned)))
    by_session (Asking hold inquiry) is entry next =
        not_entering m seat st k (λ pin pinned. absurd (asking_not hold inquiry pin (sym is ∙ pinned)))
    by_session (Pinned pin) is None next =
        not_entering m seat st k (λ other pinned n at. absurd (none_not n (sym next ∙ at)))
    by_session (Pinned pin) is (Some number) next =
        let low : last_of st ≤ number =
        subst (Stands (last_of st) (st.calls seat)) is ((k.seats seat).stands) number next in
        elim (cases_eq number (last_of st)) [
          | inl now ↦ entering m seat st pin is_start k is (next ∙ ap Some now)
          | inr later ↦
              not_entering m seat st k
              (λ other pinned n at. let same : number ≡ n = unsome number n (sym next ∙ at) in omega (arith, low, later, same))
        ]
