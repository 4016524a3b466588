-- The calls of one seat among those of the board.
use Rattle.std.proofs.Common.{◌≡◌, ℕ, ◌<◌, ◌≤◌, Bool, true, false, inl, inr, List, [], ◌∷◌, length, refl, sym, ap}
use Rattle.std.proofs.Common.{subst, ◌∙◌, Option, Some, None, arith}
use Rattle.std.proofs.lemmas.Bool.{cases_Bool, cond-true, cond-false, eqb-true, eqb-false}
use Rattle.std.proofs.lemmas.List.{length-set}
use Rattle.std.specs.Prelude.{max, cond, filter, option_map}
use Rattle.graph_types.specs.Answer.{IsAnswer}
use Rattle.graph_version.specs.Versions.{VersionView}
use Rattle.block_reclamation.specs.{declared.copies.PinCopy.PinCopy, declared.copies.Pin.Pin as SeatPin}
use Rattle.block_reclamation.specs.{declared.copies.TheConstants.SEATS, Board.BoardState}
use Rattle.block_reclamation.specs.Copies.{pin_at, unsettled, settled, floor_of}
use Rattle.block_reclamation.proofs.SeatPins.{set_own, set_else, seat_low, CopiesPin, copied_pin}
use Rattle.store_steps.specs.Merges.{Call, Asks, graph_of_version, Applies, Collects, Raises, Pins, Enters, Settles, Unpins}
use Rattle.store_steps.specs.Merges.{is_of, is_raise, next_board, IsBoardCall, AreBoardCalls, EntersInOrder, posted_by}

-- a seat on the board: its number, the floor, and its pin
pub record SeatPlace : Type 0 where
  pub seat : ℕ
  pub floor : ℕ
  pub pin : Option SeatPin

abbrev pub place_on : BoardState → ℕ → SeatPlace
place_on b seat = record { seat = seat; floor = b.floor; pin = pin_at b.pins seat }

-- a call at a seat
abbrev pub IsSeatCall : ℕ → VersionView → SeatPlace → Call → Type 0
IsSeatCall sessions end p (Raises copy) = CopiesPin copy p.seat p.pin
IsSeatCall sessions end p (Pins other) = (other ≡ p.seat) × (p.seat < sessions) × (p.pin ≡ None)
IsSeatCall sessions end p (Settles other number) = (other ≡ p.seat) × (floor : ℕ) × (p.pin ≡ Some (unsettled floor))
IsSeatCall sessions end p (Unpins other) = (other ≡ p.seat) × (old : SeatPin) × (p.pin ≡ Some old)
IsSeatCall sessions end p (Asks other number request answer) =
    (other ≡ p.seat) × (p.pin ≡ Some (record { number = number; is_settled = true }))
    × IsAnswer request (graph_of_version end number) answer
IsSeatCall sessions end p _ = ⊥

abbrev pub next_pin : ℕ → Option SeatPin → Call → Option SeatPin
next_pin floor pin (Pins other) = Some (unsettled floor)
next_pin floor pin (Settles other number) = option_map (settled number) pin
next_pin floor pin (Unpins other) = None
next_pin floor pin _ = pin

abbrev pub next_floor : ℕ → Call → ℕ
next_floor floor (Raises copy) = floor_of copy
next_floor floor _ = floor

abbrev pub next_place : SeatPlace → Call → SeatPlace
next_place p c = record { seat = p.seat; floor = next_floor p.floor c; pin = next_pin p.floor p.pin c }

abbrev pub AreSeatCalls : ℕ → VersionView → SeatPlace → List Call → Type 0
AreSeatCalls sessions end p [] = Unit {0}
AreSeatCalls sessions end p (c ∷ cs) = IsSeatCall sessions end p c × AreSeatCalls sessions end (next_place p c) cs

-- a call of the board's, from a seat's side
record BoardCall : Type 0 where
  board : BoardState
  call : Call
  seat : ℕ

-- what it is to the seat: one of the seat's, or one that leaves the seat as it was
record AtSeat (sessions : ℕ) (end : VersionView) (x : BoardCall) : Type 0 where
  seats : length (next_board x.board x.call).pins ≡ length x.board.pins
  own : is_of x.seat x.call ≡ true → IsSeatCall sessions end (place_on x.board x.seat) x.call
      × (pin_at (next_board x.board x.call).pins x.seat ≡ next_pin x.board.floor (pin_at x.board.pins x.seat) x.call)
      × ((next_board x.board x.call).floor ≡ next_floor x.board.floor x.call)
  others : is_of x.seat x.call ≡ false → (pin_at (next_board x.board x.call).pins x.seat ≡ pin_at x.board.pins x.seat)
      × ((next_board x.board x.call).floor ≡ x.board.floor)

at_seat : (sessions : ℕ) (end : VersionView) (seat : ℕ) (b : BoardState) (c : Call) → sessions ≤ SEATS → length b.pins ≡ SEATS → IsBoardCall sessions end b c
    → AtSeat sessions end (record { board = b; call = c; seat = seat })
at_seat sessions end seat b (Raises copy) few long is = record {
  seats = refl;
  own = λ _. (copied_pin copy b.pins seat long is, refl, ap floor_of (sym is));
  others = λ is_else. cc;
}
at_seat sessions end seat b (Pins other) few long is = record {
  seats = length-set b.pins other (Some (unsettled b.floor));
  own = λ is_own.
      let same : other ≡ seat = eqb-true other seat is_own in (
        (same, subst (λ s. s < sessions) same is.0, ap (pin_at b.pins) (sym same) ∙ is.1),
        set_own b.pins seat other (Some (unsettled b.floor)) same (omega arith),
        refl,
      );
  others = λ is_else. (set_else b.pins seat other (Some (unsettled b.floor)) (eqb-false other seat is_else), refl);
}
at_seat sessions end seat b (Settles other number) few long is =
    let pin : Option SeatPin = option_map (settled number) (pin_at b.pins other) in
    record {
      seats = length-set b.pins other pin;
      own = λ is_own.
          let same : other ≡ seat = eqb-true other seat is_own in (
            (same, is.0, ap (pin_at b.pins) (sym same) ∙ is.1),
            set_own b.pins seat other pin same (seat_low b.pins other (unsettled is.0) is.1)
                ∙ ap (λ s. option_map (settled number) (pin_at b.pins s)) same,
            refl,
          );
      others = λ is_else. (set_else b.pins seat other pin (eqb-false other seat is_else), refl);
    }
at_seat sessions end seat b (Unpins other) few long is = record {
  seats = length-set b.pins other None;
  own = λ is_own.
      let same : other ≡ seat = eqb-true other seat is_own in (
        (same, is.0, ap (pin_at b.pins) (sym same) ∙ is.1),
        set_own b.pins seat other None same (seat_low b.pins other is.0 is.1),
        refl,
      );
  others = λ is_else. (set_else b.pins seat other None (eqb-false other seat is_else), refl);
}
at_seat sessions end seat b (Asks other number request answer) few long is = record {
  seats = refl;
  own = λ is_own.
      let same : other ≡ seat = eqb-true other seat is_own in ((same, ap (pin_at b.pins) (sym same) ∙ is.0, is.1), refl, refl);
  others = λ is_else. (refl, refl);
}
at_seat sessions end seat b (Applies batch taken next) few long is = absurd is
at_seat sessions end seat b (Collects next) few long is = absurd is
at_seat sessions end seat b (Enters other) few long is = absurd is

-- what the board's calls are to a seat
pub seat_calls : (board : List Call) (sessions : ℕ) (end : VersionView) (seat : ℕ) (b : BoardState) → sessions ≤ SEATS → length b.pins ≡ SEATS
    → AreBoardCalls sessions end b board → AreSeatCalls sessions end (place_on b seat) (filter (is_of seat) board)
seat_calls [] sessions end seat b few long are = tt
seat_calls (c ∷ cs) sessions end seat b few long are =
    let here : AtSeat sessions end (record { board = b; call = c; seat = seat }) = at_seat sessions end seat b c few long are.0 in
    let mine : List Call = filter (is_of seat) cs in
    let rest : AreSeatCalls sessions end (place_on (next_board b c) seat) mine =
    seat_calls cs sessions end seat (next_board b c) few (here.seats ∙ long) are.1
    in
    elim (cases_Bool (is_of seat c)) [
      | inl is_own ↦
          (let o = here.own is_own in
          subst (AreSeatCalls sessions end (place_on b seat)) (sym (cond-true (is_of seat c) (c ∷ mine) mine is_own)) (
            o.0,
            subst (λ f. AreSeatCalls sessions end
                (record { seat = seat; floor = f; pin = next_pin b.floor (pin_at b.pins seat) c }) mine) o.2
                (subst (λ p. AreSeatCalls sessions end (record { seat = seat; floor = (next_board b c).floor; pin = p }) mine)
                o.1 rest),
          ))
      | inr is_else ↦
          (let o = here.others is_else in
          subst (AreSeatCalls sessions end (place_on b seat)) (sym (cond-false (is_of seat c) (c ∷ mine) mine is_else))
          (subst (λ f. AreSeatCalls sessions end (record { seat = seat; floor = f; pin = pin_at b.pins seat }) mine) o.1
          (subst (λ p. AreSeatCalls sessions end (record { seat = seat; floor = (next_board b c).floor; pin = p }) mine)
          o.0 rest)))
    ]

-- Raises

drop_raise : (own : Bool) (c : Call) (cs : List Call) → is_raise c ≡ false
    → filter is_raise (cond own (c ∷ cs) cs) ≡ filter is_raise cs
drop_raise true c cs none = cond-false (is_raise c) (c ∷ filter is_raise cs) (filter is_raise cs) none
drop_raise false c cs none = refl

-- each seat has all raises
pub raises_of : (seat : ℕ) (cs : List Call) → filter is_raise (filter (is_of seat) cs) ≡ filter is_raise cs
raises_of seat [] = refl
raises_of seat (Applies batch taken next ∷ cs) = raises_of seat cs
raises_of seat (Collects next ∷ cs) = raises_of seat cs
raises_of seat (Enters other ∷ cs) = raises_of seat cs
raises_of seat (Raises copy ∷ cs) = ap (λ more. Raises copy ∷ more) (raises_of seat cs)
raises_of seat (Pins other ∷ cs) =
    drop_raise (is_of seat (Pins other)) (Pins other) (filter (is_of seat) cs) refl ∙ raises_of seat cs
raises_of seat (Settles other number ∷ cs) =
    drop_raise (is_of seat (Settles other number)) (Settles other number) (filter (is_of seat) cs) refl ∙ raises_of seat cs
raises_of seat (Asks other number request answer ∷ cs) =
    drop_raise (is_of seat (Asks other number request answer)) (Asks other number request answer) (filter (is_of seat) cs) refl
    ∙ raises_of seat cs
raises_of seat (Unpins other ∷ cs) =
    drop_raise (is_of seat (Unpins other)) (Unpins other) (filter (is_of seat) cs) refl ∙ raises_of seat cs

-- Entries

-- the number that the seat's next call settles, if its next call but for raises is a settle
abbrev pub entry_of : List Call → Option ℕ
entry_of (Raises copy ∷ cs) = entry_of cs
entry_of (Settles seat number ∷ cs) = Some number
entry_of _ = None

pub entry_after : (cs : List Call) (final seen least n : ℕ) → EntersInOrder final seen least cs → entry_of cs ≡ Some n → least ≤ n
entry_after [] final seen least n are is = cc
entry_after (Raises copy ∷ cs) final seen least n are is = entry_after cs final copy.last least n are is
entry_after (Settles seat number ∷ cs) final seen least n are is = let same : number ≡ n = cc in omega (arith, same, are.0)
entry_after (Pins seat ∷ cs) final seen least n are is = cc
entry_after (Asks seat number request answer ∷ cs) final seen least n are is = cc
entry_after (Unpins seat ∷ cs) final seen least n are is = cc
entry_after (Enters seat ∷ cs) final seen least n are is = cc
entry_after (Applies batch taken next ∷ cs) final seen least n are is = cc
entry_after (Collects next ∷ cs) final seen least n are is = cc

-- the last number is at most what the seat's next entry before the next raise may give
abbrev pub IsReady : ℕ → ℕ → ℕ → List Call → Type 0
IsReady last seen least [] = Unit {0}
IsReady last seen least (Raises copy ∷ cs) = Unit {0}
IsReady last seen least (Settles seat number ∷ cs) = last ≤ max number seen
IsReady last seen least (c ∷ cs) = last ≤ max least seen

pub ready_next : (cs : List Call) (final last seen least : ℕ) → EntersInOrder final seen least cs → last ≤ max least seen
    → IsReady last seen least cs
ready_next [] final last seen least are low = tt
ready_next (Raises copy ∷ cs) final last seen least are low = tt
ready_next (Settles seat number ∷ cs) final last seen least are low = omega (arith, are.0)
ready_next (Pins seat ∷ cs) final last seen least are low = low
ready_next (Asks seat number request answer ∷ cs) final last seen least are low = low
ready_next (Unpins seat ∷ cs) final last seen least are low = low
ready_next (Enters seat ∷ cs) final last seen least are low = low
ready_next (Applies batch taken next ∷ cs) final last seen least are low = low
ready_next (Collects next ∷ cs) final last seen least are low = low

-- the seat has no call before the next raise, but for a settle of a version that isn't posted
abbrev pub IsWaiting : ℕ → List Call → Type 0
IsWaiting last [] = Unit {0}
IsWaiting last (Raises copy ∷ cs) = Unit {0}
IsWaiting last (Settles seat number ∷ cs) = last < number
IsWaiting last (c ∷ cs) = ⊥

pub posted_finally : (cs : List Call) (final : ℕ) → filter is_raise cs ≡ [] → posted_by final cs ≡ final
posted_finally [] final none = refl
posted_finally (Raises copy ∷ cs) final none = cc
posted_finally (Settles seat number ∷ cs) final none = posted_finally cs final none
posted_finally (Pins seat ∷ cs) final none = posted_finally cs final none
posted_finally (Asks seat number request answer ∷ cs) final none = posted_finally cs final none
posted_finally (Unpins seat ∷ cs) final none = posted_finally cs final none
posted_finally (Enters seat ∷ cs) final none = posted_finally cs final none
posted_finally (Applies batch taken next ∷ cs) final none = posted_finally cs final none
posted_finally (Collects next ∷ cs) final none = posted_finally cs final none

pub posted_first : (cs more : List Call) (final : ℕ) (copy : PinCopy) → filter is_raise cs ≡ Raises copy ∷ more
    → posted_by final cs ≡ copy.last
posted_first [] more final copy first = cc
posted_first (Raises other ∷ cs) more final copy first = let same : other ≡ copy = cc in ap (λ c. c.last) same
posted_first (Settles seat number ∷ cs) more final copy first = posted_first cs more final copy first
posted_first (Pins seat ∷ cs) more final copy first = posted_first cs more final copy first
posted_first (Asks seat number request answer ∷ cs) more final copy first = posted_first cs more final copy first
posted_first (Unpins seat ∷ cs) more final copy first = posted_first cs more final copy first
posted_first (Enters seat ∷ cs) more final copy first = posted_first cs more final copy first
posted_first (Applies batch taken next ∷ cs) more final copy first = posted_first cs more final copy first
posted_first (Collects next ∷ cs) more final copy first = posted_first cs more final copy first
