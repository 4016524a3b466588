-- What a seat that waits allows the desk.
use Rattle.std.proofs.Common.{◌≡◌, ℕ, ◌+◌, ◌≤◌, List, [], ◌∷◌, refl, Some, None, sym, ap, ◌∙◌, arith, true}
use Rattle.std.specs.Prelude.{filter}
use Rattle.graph_version.specs.Versions.{VersionView}
use Rattle.block_reclamation.specs.{declared.copies.PinCopy.PinCopy, declared.copies.Pin.Pin as SeatPin, Copies.unsettled}
use Rattle.epoch_core.specs.declared.session_states.SessionState.{SessionState}
use Rattle.epoch_core.specs.{declared.session_states.SessionState.TheVariants.{Idle, Pinned, Holding, Asking}, Worlds.seat_pin}
use Rattle.store_steps.specs.Merges.{Asks, Call, Applies, Collects, Raises, Pins, Enters, Settles, Unpins, is_raise}
use Rattle.store_steps.specs.Merges.{EntersInOrder}
use Rattle.store_steps.proofs.SeatCalls.{AreSeatCalls, IsReady, IsWaiting, posted_finally, posted_first}
use Rattle.store_steps.proofs.{Stages.{Stands, SeatView, IsSeat, view_of}, Laps.IsStuck, Entering.Awaits}

-- after one more batch
pub seat_later : (sessions : ℕ) (end : VersionView) (v : SeatView) (later : ℕ) → IsSeat sessions end v
    → IsStuck v.last v.calls v.session → later ≡ v.last + 1 → IsSeat sessions end (record v { last = later })
seat_later sessions end v later is stuck more = record {
  least = is.least;
  are = is.are;
  entries = is.entries;
  ready = ready_later v.calls is.least stuck.0;
  stands = stands_later v.session is.stands stuck.1;
}
  where
    ready_later : (cs : List Call) (least : ℕ) → IsWaiting v.last cs → IsReady later v.seen least cs
    ready_later [] least waits = tt
    ready_later (Raises copy ∷ cs) least waits = tt
    ready_later (Settles other n ∷ cs) least waits = omega (arith, waits, more)
    ready_later (Pins other ∷ cs) least waits = absurd waits
    ready_later (Unpins other ∷ cs) least waits = absurd waits
    ready_later (Asks other n request answer ∷ cs) least waits = absurd waits
    ready_later (Enters other ∷ cs) least waits = absurd waits
    ready_later (Applies batch taken next ∷ cs) least waits = absurd waits
    ready_later (Collects next ∷ cs) least waits = absurd waits

    stands_later : (session : SessionState) → Stands v.last v.calls session → Awaits v.last v.calls session
        → Stands later v.calls session
    stands_later Idle stands awaits = tt
    stands_later (Pinned number) stands awaits = λ n next. let low = awaits number refl n next in omega (arith, low, more)
    stands_later (Holding hold) stands awaits = stands
    stands_later (Asking hold inquiry) stands awaits = absurd stands

-- the seat's next call is the raise
pub raise_next : (cs more : List Call) (final seen least last : ℕ) (copy : PinCopy) → filter is_raise cs ≡ Raises copy ∷ more
    → IsWaiting last cs → EntersInOrder final seen least cs → copy.last ≡ last → (rest : List Call) × (cs ≡ Raises copy ∷ rest)
raise_next [] more final seen least last copy first waits are is = cc
raise_next (Raises other ∷ cs) more final seen least last copy first waits are is =
    let same : other ≡ copy = cc in (cs, ap (λ c. Raises c ∷ cs) same)
raise_next (Settles other n ∷ cs) more final seen least last copy first waits are is =
    let posted = posted_first cs more final copy first in absurd (omega (arith, posted, waits, are.1, is))
raise_next (Pins other ∷ cs) more final seen least last copy first waits are is = absurd waits
raise_next (Asks other n request answer ∷ cs) more final seen least last copy first waits are is = absurd waits
raise_next (Unpins other ∷ cs) more final seen least last copy first waits are is = absurd waits
raise_next (Enters other ∷ cs) more final seen least last copy first waits are is = absurd waits
raise_next (Applies batch taken next ∷ cs) more final seen least last copy first waits are is = absurd waits
raise_next (Collects next ∷ cs) more final seen least last copy first waits are is = absurd waits

-- without a further raise, none is left
pub none_left : (cs : List Call) (final seen least last : ℕ) → filter is_raise cs ≡ [] → IsWaiting last cs → EntersInOrder final seen least cs
    → last ≡ final → cs ≡ []
none_left [] final seen least last none waits are is = refl
none_left (Raises copy ∷ cs) final seen least last none waits are is = cc
none_left (Settles other n ∷ cs) final seen least last none waits are is =
    let posted = posted_finally cs final none in absurd (omega (arith, posted, waits, are.1, is))
none_left (Pins other ∷ cs) final seen least last none waits are is = absurd waits
none_left (Asks other n request answer ∷ cs) final seen least last none waits are is = absurd waits
none_left (Unpins other ∷ cs) final seen least last none waits are is = absurd waits
none_left (Enters other ∷ cs) final seen least last none waits are is = absurd waits
none_left (Applies batch taken next ∷ cs) final seen least last none waits are is = absurd waits
none_left (Collects next ∷ cs) final seen least last none waits are is = absurd waits

pub stands_behind : (last : ℕ) (copy : PinCopy) (cs : List Call) (session : SessionState) → Stands last (Raises copy ∷ cs) session
    → Stands last cs session
stands_behind last copy cs Idle stands = tt
stands_behind last copy cs (Pinned pin) stands = stands
stands_behind last copy cs (Holding hold) stands = stands
stands_behind last copy cs (Asking hold inquiry) stands = stands

-- a seat that the board doesn't have waits
pub seat_beyond : (sessions : ℕ) (end : VersionView) (seen last floor seat : ℕ) (session : SessionState) (cs : List Call) → sessions ≤ seat
    → seat_pin session ≡ None
    → IsSeat sessions end (view_of seen last (record { seat = seat; floor = floor; pin = None }) session cs)
    → IsStuck last cs session
seat_beyond sessions end seen last floor seat session cs high none is =
    (waits cs is.are, λ pin pinned n next. absurd (pinless pin (sym (ap seat_pin pinned) ∙ none)))
  where
    pinless : (pin : ℕ) → Some (unsettled pin) ≡ None → ⊥
    pinless pin e = cc

    unpinned : (pin : SeatPin) → None ≡ Some pin → ⊥
    unpinned pin e = cc

    waits : (cs : List Call) → AreSeatCalls sessions end (record { seat = seat; floor = floor; pin = None }) cs
        → IsWaiting last cs
    waits [] are = tt
    waits (Raises copy ∷ cs) are = tt
    waits (Pins other ∷ cs) are = absurd (omega (arith, high, are.0.1))
    waits (Settles other n ∷ cs) are = absurd (unpinned (unsettled are.0.1) are.0.2)
    waits (Unpins other ∷ cs) are = absurd (unpinned are.0.1 are.0.2)
    waits (Asks other n request answer ∷ cs) are = absurd (unpinned (record { number = n; is_settled = true }) are.0.1)
    waits (Enters other ∷ cs) are = absurd are.0
    waits (Applies batch taken next ∷ cs) are = absurd are.0
    waits (Collects next ∷ cs) are = absurd are.0
