-- One call of a seat's under the board's lock: it is pinned, settled or unpinned.
use Rattle.std.proofs.Common.{◌≡◌, ℕ, ◌<◌, ◌≤◌, false, List, [], ◌∷◌, ◌++◌, length, refl, Option, Some, None, sym, ap, subst}
use Rattle.std.proofs.Common.{◌∙◌, arith}
use Rattle.std.proofs.lemmas.Bool.{true≢false}
use Rattle.std.specs.Prelude.{max, option_map, is_some}
use Rattle.block_reclamation.specs.{declared.copies.Pin.Pin as SeatPin, declared.copies.TheConstants.SEATS}
use Rattle.block_reclamation.specs.Copies.{pin_at, unsettled, settled}
use Rattle.block_reclamation.proofs.SeatPins.{seat_low, settled_above, none_not, is_told}
use Rattle.graph_types.proofs.Cases.{unsome}
use Rattle.epoch_core.specs.{declared.events.Event.TheVariants.{Pin, Settle, Release}, declared.session_states.Hold.Hold}
use Rattle.epoch_core.specs.declared.session_states.SessionState.{SessionState}
use Rattle.epoch_core.specs.declared.session_states.SessionState.TheVariants.{Idle, Pinned, Holding, Asking}
use Rattle.epoch_core.specs.{Runs.run, Worlds.{World, IsStart, seat_pin, session_of, held_in}}
use Rattle.epoch_core.specs.Machine.{to_pin, to_settle, to_release, settled_at}
use Rattle.epoch_core.proofs.Sizes.{size_run}
use Rattle.epoch_core.proofs.SessionSteps.{idle_if, within, holding_not_idle}
use Rattle.store_steps.specs.{Reached.{IsReached, with_seat}, Merges.{Call, Pins, Settles, Unpins}}
use Rattle.store_steps.proofs.{SeatCalls.{ready_next, entry_after, place_on}, Reached.stays_reached}
use Rattle.store_steps.proofs.Stages.{Seated, seated, Stands, Merging, IsOneSeat, Stage, last_of, session_at, view_of}
use Rattle.store_steps.proofs.Stages.{IsStage, Onward, calls_here, after_call, seat_call}

-- a session that isn't idle lets go
releases : (last : ℕ) (cs : List Call) (session : SessionState) → (session ≡ Idle → ⊥) → Stands last cs session
    → to_release session ≡ Some Idle
releases last cs Idle busy stands = absurd (busy refl)
releases last cs (Pinned pin) busy stands = refl
releases last cs (Holding hold) busy stands = refl
releases last cs (Asking hold inquiry) busy stands = absurd stands

-- what is known of the seat, by its calls
pub at_calls : (m : Merging) (seat : ℕ) (st : Stage) (cs : List Call) → IsStage m st → st.calls seat ≡ cs
    → IsOneSeat m (view_of m.seen (last_of st) (place_on st.store.board seat) (session_at m.start.world st seat) cs)
at_calls m seat st cs k is =
    subst (λ calls. IsOneSeat m (view_of m.seen (last_of st) (place_on st.store.board seat) (session_at m.start.world st seat) calls))
    is (k.seats seat)

pub low_seat : (m : Merging) (seat : ℕ) (st : Stage) (pin : SeatPin) → IsStage m st
    → pin_at st.store.board.pins seat ≡ Some pin → seat < SEATS
low_seat m seat st pin k is = subst (λ n. seat < n) k.board.seats (seat_low st.store.board.pins seat pin is)

pub pinning : (m : Merging) (seat other : ℕ) (st : Stage) (cs : List Call) → IsStart m.start
    → length m.start.world.sessions ≤ SEATS → IsStage m st → st.calls seat ≡ Pins other ∷ cs
    → (there : Stage) × Onward m seat st there × (there.calls seat ≡ cs)
pinning m seat other st cs is_start few k is =
    let mine = at_calls m seat st (Pins other ∷ cs) k is in
    let none : pin_at st.store.board.pins seat ≡ None = mine.are.0.2 in
    let w : World = run st.events m.start.world in
    let sizes : length w.sessions ≡ length m.start.world.sessions = (size_run st.events m.start.world).sessions in
    let floor : ℕ = st.store.board.floor in
    let low : seat < SEATS = omega (arith, mine.are.0.1, few) in
    let idle : session_of w seat ≡ Idle = idle_if (session_of w seat) (k.reached.board.pins seat ∙ none) in
    let done : Seated m.start.world (record { events = st.events; event = Pin seat; seat = seat; next = Pinned w.floor }) =
    seated m.start.world st.events (Pin seat) seat (to_pin w.floor) Idle (Pinned w.floor) refl (omega (arith, mine.are.0.1, sizes)) idle refl in
    let reached : IsReached m.start.world (st.events ++ Pin seat ∷ []) (with_seat st.store seat (Some (unsettled floor))) =
    (stays_reached m.start is_start).pinned st.store seat st.events k.board low mine.are.0.1 none k.reached in (
      after_call st seat (Pin seat) (Some (unsettled floor)) cs,
      seat_call m st seat (Pins seat) cs (Pin seat) (Some (unsettled floor)) (Pinned w.floor) k
          (is ∙ ap (λ s. Pins s ∷ cs) mine.are.0.0) low
          (record { no_desks = refl; own = λ t. refl; no_raise = refl; leaves = refl; event = λ v. refl; silent = λ rs. refl; makes = λ cs are. are; quiet = λ v rs. (rs, refl, refl) }) tt done reached (omega arith)
          (record {
            least = max mine.least m.seen;
            are = mine.are.1;
            entries = mine.entries;
            ready = ready_next cs (length m.end.batches) (last_of st) m.seen (max mine.least m.seen) mine.entries (omega (arith, mine.ready));
            stands = λ n next.
                let after = entry_after cs (length m.end.batches) m.seen (max mine.least m.seen) n mine.entries next in omega (arith, after, mine.ready);
          }),
      calls_here st.calls seat seat cs refl,
    )

pub settling : (m : Merging) (seat other n : ℕ) (st : Stage) (cs : List Call) (hold : Hold) → IsStart m.start
    → IsStage m st → st.calls seat ≡ Settles other n ∷ cs
    → session_at m.start.world st seat ≡ Holding hold
    → (there : Stage) × Onward m seat st there × (there.calls seat ≡ cs)
settling m seat other n st cs hold is_start k is holds =
    let mine = at_calls m seat st (Settles other n ∷ cs) k is in
    let w : World = run st.events m.start.world in
    let pins : List (Option SeatPin) = st.store.board.pins in
    let old : SeatPin = unsettled mine.are.0.1 in
    let had : pin_at pins seat ≡ Some old = mine.are.0.2 in
    let shown : Some (record { number = hold.pin; is_settled = hold.settled }) ≡ Some old =
    sym (ap seat_pin holds) ∙ k.reached.board.pins seat ∙ had in
    let open_yet : hold.settled ≡ false = ap is_told shown in
    let same : n ≡ hold.version =
    unsome n hold.version (subst (Stands (last_of st) (Settles other n ∷ cs)) holds mine.stands open_yet) in
    let held : held_in (session_of w seat) ≡ Some n = ap held_in holds ∙ ap Some (sym same) in
    let low : seat < SEATS = low_seat m seat st old k had in
    let done : Seated m.start.world
    (record { events = st.events; event = Settle seat; seat = seat; next = Holding (settled_at hold) }) =
    seated m.start.world st.events (Settle seat) seat to_settle (Holding hold) (Holding (settled_at hold)) refl
    (within w seat (λ idle. holding_not_idle hold (sym holds ∙ idle))) holds refl in
    let pin : Option SeatPin = option_map (settled n) (pin_at pins seat) in
    let reached : IsReached m.start.world (st.events ++ Settle seat ∷ []) (with_seat st.store seat pin) =
    (stays_reached m.start is_start).settled st.store seat n st.events k.board low held k.reached in (
      after_call st seat (Settle seat) pin cs,
      seat_call m st seat (Settles seat n) cs (Settle seat) pin (Holding (settled_at hold)) k
          (is ∙ ap (λ s. Settles s n ∷ cs) mine.are.0.0) low
          (record { no_desks = refl; own = λ t. refl; no_raise = refl; leaves = refl; event = λ v. refl; silent = λ rs. refl; makes = λ cs are. are; quiet = λ v rs. (rs, refl, refl) }) held done reached
          (settled_above n st.store.board.floor (pin_at pins seat) (k.board.below_pins seat))
          (record {
            least = n;
            are = mine.are.1;
            entries = mine.entries.2;
            ready = ready_next cs (length m.end.batches) (last_of st) m.seen n mine.entries.2 mine.ready;
            stands = λ no. absurd (true≢false no);
          }),
      calls_here st.calls seat seat cs refl,
    )

pub unpinning : (m : Merging) (seat other : ℕ) (st : Stage) (cs : List Call) → IsStart m.start → IsStage m st
    → st.calls seat ≡ Unpins other ∷ cs
    → (there : Stage) × Onward m seat st there × (there.calls seat ≡ cs)
unpinning m seat other st cs is_start k is =
    let mine = at_calls m seat st (Unpins other ∷ cs) k is in
    let w : World = run st.events m.start.world in
    let had : pin_at st.store.board.pins seat ≡ Some mine.are.0.1 = mine.are.0.2 in
    let low : seat < SEATS = low_seat m seat st mine.are.0.1 k had in
    let busy : session_of w seat ≡ Idle → ⊥ = λ idle.
    none_not mine.are.0.1 (sym (ap seat_pin idle) ∙ k.reached.board.pins seat ∙ had) in
    let done : Seated m.start.world (record { events = st.events; event = Release seat; seat = seat; next = Idle }) =
    seated m.start.world st.events (Release seat) seat to_release (session_of w seat) Idle refl (within w seat busy) refl
    (releases (last_of st) (Unpins other ∷ cs) (session_of w seat) busy mine.stands) in
    let reached : IsReached m.start.world (st.events ++ Release seat ∷ []) (with_seat st.store seat None) =
    (stays_reached m.start is_start).unpinned st.store seat st.events k.board low (ap is_some done.stepped) k.reached in (
      after_call st seat (Release seat) None cs,
      seat_call m st seat (Unpins seat) cs (Release seat) None Idle k
          (is ∙ ap (λ s. Unpins s ∷ cs) mine.are.0.0) low
          (record { no_desks = refl; own = λ t. refl; no_raise = refl; leaves = refl; event = λ v. refl; silent = λ rs. refl; makes = λ cs are. are; quiet = λ v rs. (rs, refl, refl) }) tt done reached tt
          (record {
            least = mine.least;
            are = mine.are.1;
            entries = mine.entries;
            ready = ready_next cs (length m.end.batches) (last_of st) m.seen mine.least mine.entries mine.ready;
            stands = tt;
          }),
      calls_here st.calls seat seat cs refl,
    )
