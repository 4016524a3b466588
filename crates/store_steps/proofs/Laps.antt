-- A seat's calls, made as far as the posted versions allow.
use Rattle.std.proofs.Common.{◌≡◌, ℕ, ◌<◌, ◌≤◌, inl, inr, List, [], ◌∷◌, length, refl, Option, Some, sym, subst, ◌∙◌}
use Rattle.std.specs.Prelude.{◌⊎◌}
use Rattle.block_reclamation.specs.{declared.copies.Pin.Pin as SeatPin, declared.copies.TheConstants.SEATS, Copies.unsettled}
use Rattle.block_reclamation.proofs.SeatPins.{none_not}
use Rattle.epoch_core.specs.{declared.session_states.Hold.Hold, declared.session_states.SessionState.SessionState}
use Rattle.epoch_core.specs.declared.session_states.SessionState.TheVariants.{Idle, Pinned, Holding, Asking}
use Rattle.epoch_core.specs.Worlds.{IsStart, seat_pin}
use Rattle.store_steps.specs.Merges.{Call, Applies, Collects, Raises, Pins, Enters, Settles, Unpins, Asks}
use Rattle.store_steps.proofs.{SeatCalls.IsWaiting, Stages.{Stands, Merging, Stage, last_of, session_at, IsStage, Onward, onward_both}}
use Rattle.store_steps.proofs.Entering.{Awaits, Entered, enter_if}
use Rattle.store_steps.proofs.{Seating.{at_calls, pinning, settling, unpinning}, Questioning.questioning}

-- The seat's calls, one after another

-- the seat waits: for the next raise, or for a version that isn't posted
abbrev pub IsStuck : ℕ → List Call → SessionState → Type 0
IsStuck last cs session = IsWaiting last cs × Awaits last cs session

pub record Lapped (m : Merging) (seat : ℕ) (st : Stage) : Type 0 where
  pub there : Stage
  pub onward : Onward m seat st there
  pub stuck : IsStuck (last_of there) (there.calls seat) (session_at m.start.world there seat)

lapped_after : (m : Merging) (seat : ℕ) (st next : Stage) → Onward m seat st next → Lapped m seat next → Lapped m seat st
lapped_after m seat st next first rest = record {
  there = rest.there;
  onward = onward_both m seat st next rest.there first rest.onward;
  stuck = rest.stuck;
}

waiting : (m : Merging) (seat : ℕ) (st : Stage) (cs : List Call) → st.calls seat ≡ cs → (e : Entered m seat st)
    → IsWaiting (last_of e.there) cs → Lapped m seat st
waiting m seat st cs is e waits = record {
  there = e.there;
  onward = e.onward;
  stuck = (subst (IsWaiting (last_of e.there)) (sym (e.calls_same ∙ is)) waits, e.awaits);
}

-- a session that is to settle enters later, or holds a version
settle_now : (last n other : ℕ) (cs : List Call) (session : SessionState) (pin : Option SeatPin) → seat_pin session ≡ pin
    → (floor : ℕ) → pin ≡ Some (unsettled floor) → Stands last (Settles other n ∷ cs) session
    → Awaits last (Settles other n ∷ cs) session → (last < n) ⊎ ((hold : Hold) × (session ≡ Holding hold))
settle_now last n other cs Idle pin shown floor had stands awaits = absurd (none_not (unsettled floor) (shown ∙ had))
settle_now last n other cs (Pinned number) pin shown floor had stands awaits = inl (awaits number refl n refl)
settle_now last n other cs (Holding hold) pin shown floor had stands awaits = inr (hold, refl)
settle_now last n other cs (Asking hold inquiry) pin shown floor had stands awaits = absurd stands

-- a seat makes its calls until it waits
pub lap : (m : Merging) (seat : ℕ) (cs : List Call) (st : Stage) → IsStart m.start → length m.start.world.sessions ≤ SEATS
    → IsStage m st → st.calls seat ≡ cs → Lapped m seat st
lap m seat [] st is_start few k is = waiting m seat st [] is (enter_if m seat st is_start k) tt
lap m seat (Raises copy ∷ cs) st is_start few k is =
    waiting m seat st (Raises copy ∷ cs) is (enter_if m seat st is_start k) tt
lap m seat (Pins other ∷ cs) st is_start few k is =
    let one = pinning m seat other st cs is_start few k is in
    lapped_after m seat st one.0 one.1 (lap m seat cs one.0 is_start few one.1.stage one.2)
lap m seat (Unpins other ∷ cs) st is_start few k is =
    let one = unpinning m seat other st cs is_start k is in
    lapped_after m seat st one.0 one.1 (lap m seat cs one.0 is_start few one.1.stage one.2)
lap m seat (Asks other n request answer ∷ cs) st is_start few k is =
    let one = questioning m seat other n request answer st cs is_start k is in
    lapped_after m seat st one.0 one.1 (lap m seat cs one.0 is_start few one.1.stage one.2)
lap m seat (Settles other n ∷ cs) st is_start few k is =
    let e = enter_if m seat st is_start k in
    let there = e.calls_same ∙ is in
    let mine = at_calls m seat e.there (Settles other n ∷ cs) e.onward.stage there in
    elim (settle_now (last_of e.there) n other cs (session_at m.start.world e.there seat) _ (e.onward.stage.reached.board.pins seat)
    mine.are.0.1 mine.are.0.2 mine.stands (subst (λ c. Awaits (last_of e.there) c (session_at m.start.world e.there seat)) there e.awaits)) [
      | inl later ↦ waiting m seat st (Settles other n ∷ cs) is e later
      | inr holds ↦
          (let one = settling m seat other n e.there cs holds.0 is_start e.onward.stage there holds.1 in
          lapped_after m seat st e.there e.onward
          (lapped_after m seat e.there one.0 one.1 (lap m seat cs one.0 is_start few one.1.stage one.2)))
    ]
lap m seat (Applies batch taken next ∷ cs) st is_start few k is =
    absurd ((at_calls m seat st (Applies batch taken next ∷ cs) k is).are.0)
lap m seat (Collects next ∷ cs) st is_start few k is =
    absurd ((at_calls m seat st (Collects next ∷ cs) k is).are.0)
lap m seat (Enters other ∷ cs) st is_start few k is =
    absurd ((at_calls m seat st (Enters other ∷ cs) k is).are.0)
