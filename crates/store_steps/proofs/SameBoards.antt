-- Lists of calls that have the same calls for each seat leave the same board.
use Rattle.std.proofs.Common.{◌≡◌, ℕ, ◌<◌, true, false, inl, inr, List, [], ◌∷◌, length, refl, sym, ap, ◌∙◌, Option, Some}
use Rattle.std.proofs.Common.{None, arith, subst}
use Rattle.std.proofs.{lemmas.Bool.{cases_Bool, cases_lt, cond-true, cond-false, eqb-true, eqb-false}, lemmas.List.length-set}
use Rattle.std.specs.Prelude.{filter, option_map}
use Rattle.graph_version.specs.Versions.{VersionView}
use Rattle.block_reclamation.specs.{declared.copies.Pin.Pin as SeatPin, declared.copies.TheConstants.SEATS, Board.BoardState}
use Rattle.block_reclamation.specs.Copies.{pin_at, unsettled, settled, copy_of, floor_of}
use Rattle.block_reclamation.proofs.SeatPins.{pin_set, pin_stays, pin_beyond}
use Rattle.graph_types.proofs.ListPlaces.{same_elements}
use Rattle.store_steps.specs.Reached.{Store}
use Rattle.store_steps.specs.Merges.{Call, Applies, Collects, Raises, Pins, Settles, Unpins, Enters, Asks, is_desks, is_of}
use Rattle.store_steps.specs.Merges.{desk_by, next_board, board_by, next_store, store_by, AreBoardCalls}
use Rattle.store_steps.proofs.SeatCalls.{next_pin, next_floor}

-- each raise copies the pins as they stand
abbrev pub MakesCopies : BoardState → List Call → Type 0
MakesCopies b [] = Unit {0}
MakesCopies b (Raises copy ∷ cs) = (copy ≡ copy_of copy.last b.pins) × MakesCopies (next_board b (Raises copy)) cs
MakesCopies b (c ∷ cs) = MakesCopies (next_board b c) cs

pub makes_copies : (cs : List Call) (sessions : ℕ) (last : VersionView) (b : BoardState) → AreBoardCalls sessions last b cs
    → MakesCopies b cs
makes_copies [] sessions last b are = tt
makes_copies (Raises copy ∷ cs) sessions last b are =
    (are.0, makes_copies cs sessions last (next_board b (Raises copy)) are.1)
makes_copies (Pins other ∷ cs) sessions last b are = makes_copies cs sessions last (next_board b (Pins other)) are.1
makes_copies (Settles other n ∷ cs) sessions last b are = makes_copies cs sessions last (next_board b (Settles other n)) are.1
makes_copies (Unpins other ∷ cs) sessions last b are = makes_copies cs sessions last (next_board b (Unpins other)) are.1
makes_copies (Asks other n request answer ∷ cs) sessions last b are = makes_copies cs sessions last b are.1
makes_copies (Enters other ∷ cs) sessions last b are = absurd are.0
makes_copies (Applies batch taken next ∷ cs) sessions last b are = absurd are.0
makes_copies (Collects next ∷ cs) sessions last b are = absurd are.0

-- the rest of the calls makes copies too
copies_then : (b : BoardState) (c : Call) (cs : List Call) → MakesCopies b (c ∷ cs) → MakesCopies (next_board b c) cs
copies_then b (Raises copy) cs makes = makes.1
copies_then b (Pins other) cs makes = makes
copies_then b (Settles other n) cs makes = makes
copies_then b (Unpins other) cs makes = makes
copies_then b (Asks other n request answer) cs makes = makes
copies_then b (Enters other) cs makes = makes
copies_then b (Applies batch taken next) cs makes = makes
copies_then b (Collects next) cs makes = makes

seats_stay : (b : BoardState) (c : Call) → length (next_board b c).pins ≡ length b.pins
seats_stay b (Raises copy) = refl
seats_stay b (Pins other) = length-set b.pins other (Some (unsettled b.floor))
seats_stay b (Settles other n) = length-set b.pins other (option_map (settled n) (pin_at b.pins other))
seats_stay b (Unpins other) = length-set b.pins other None
seats_stay b (Asks other n request answer) = refl
seats_stay b (Enters other) = refl
seats_stay b (Applies batch taken next) = refl
seats_stay b (Collects next) = refl

-- a seat's pin and the floor after one call: by the seat's own call, or as before
record IsNext (b : BoardState) (c : Call) (t : ℕ) : Type 0 where
  own : is_of t c ≡ true
      → (pin_at (next_board b c).pins t ≡ next_pin b.floor (pin_at b.pins t) c) × ((next_board b c).floor ≡ next_floor b.floor c)
  others : is_of t c ≡ false → (pin_at (next_board b c).pins t ≡ pin_at b.pins t) × ((next_board b c).floor ≡ b.floor)

is_next : (b : BoardState) (c : Call) (cs : List Call) (t : ℕ) → t < length b.pins → MakesCopies b (c ∷ cs) → IsNext b c t
is_next b (Raises copy) cs t low makes =
    record { own = λ is_own. (refl, ap floor_of (sym makes.0)); others = λ is_else. cc }
is_next b (Pins other) cs t low makes = record {
  own = λ is_own. (pin_set b t other (Some (unsettled b.floor)) low (eqb-true other t is_own), refl);
  others = λ is_else. (pin_stays b t other (Some (unsettled b.floor)) (eqb-false other t is_else), refl);
}
is_next b (Settles other n) cs t low makes =
    let pin : Option SeatPin = option_map (settled n) (pin_at b.pins other) in
    record {
      own = λ is_own.
          let same : other ≡ t = eqb-true other t is_own in
          (pin_set b t other pin low same ∙ ap (λ o. option_map (settled n) (pin_at b.pins o)) same, refl);
      others = λ is_else. (pin_stays b t other pin (eqb-false other t is_else), refl);
    }
is_next b (Unpins other) cs t low makes = record {
  own = λ is_own. (pin_set b t other None low (eqb-true other t is_own), refl);
  others = λ is_else. (pin_stays b t other None (eqb-false other t is_else), refl);
}
is_next b (Asks other n request answer) cs t low makes =
    record { own = λ is_own. (refl, refl); others = λ is_else. (refl, refl) }
is_next b (Enters other) cs t low makes = record { own = λ is_own. (refl, refl); others = λ is_else. (refl, refl) }
is_next b (Applies batch taken next) cs t low makes =
    record { own = λ is_own. (refl, refl); others = λ is_else. (refl, refl) }
is_next b (Collects next) cs t low makes = record { own = λ is_own. (refl, refl); others = λ is_else. (refl, refl) }

-- a seat's pin and the floor after the seat's calls
abbrev pin_by : ℕ → Option SeatPin → List Call → Option SeatPin
pin_by floor pin [] = pin
pin_by floor pin (c ∷ cs) = pin_by (next_floor floor c) (next_pin floor pin c) cs

abbrev floor_by : ℕ → List Call → ℕ
floor_by floor [] = floor
floor_by floor (c ∷ cs) = floor_by (next_floor floor c) cs

record EndsAt (b : BoardState) (cs : List Call) (t : ℕ) : Type 0 where
  pin : pin_at (board_by b cs).pins t ≡ pin_by b.floor (pin_at b.pins t) (filter (is_of t) cs)
  floor : (board_by b cs).floor ≡ floor_by b.floor (filter (is_of t) cs)

ends_at : (cs : List Call) (b : BoardState) (t : ℕ) → t < length b.pins → MakesCopies b cs → EndsAt b cs t
ends_at [] b t low makes = record { pin = refl; floor = refl }
ends_at (c ∷ cs) b t low makes =
    let mine : List Call = filter (is_of t) cs in
    let after : BoardState = next_board b c in
    let one : IsNext b c t = is_next b c cs t low makes in
    let rest : EndsAt after cs t = ends_at cs after t (subst (λ n. t < n) (sym (seats_stay b c)) low) (copies_then b c cs makes) in
    elim (cases_Bool (is_of t c)) [
      | inl is_own ↦
          (let calls : filter (is_of t) (c ∷ cs) ≡ c ∷ mine = cond-true (is_of t c) (c ∷ mine) mine is_own in
          let o = one.own is_own in
          record {
            pin = rest.pin ∙ ap (λ f. pin_by f (pin_at after.pins t) mine) o.1
                ∙ ap (λ p. pin_by (next_floor b.floor c) p mine) o.0 ∙ ap (pin_by b.floor (pin_at b.pins t)) (sym calls);
            floor = rest.floor ∙ ap (λ f. floor_by f mine) o.1 ∙ ap (floor_by b.floor) (sym calls);
          })
      | inr is_else ↦
          (let calls : filter (is_of t) (c ∷ cs) ≡ mine = cond-false (is_of t c) (c ∷ mine) mine is_else in
          let o = one.others is_else in
          record {
            pin = rest.pin ∙ ap (λ f. pin_by f (pin_at after.pins t) mine) o.1 ∙ ap (λ p. pin_by b.floor p mine) o.0
                ∙ ap (pin_by b.floor (pin_at b.pins t)) (sym calls);
            floor = rest.floor ∙ ap (λ f. floor_by f mine) o.1 ∙ ap (floor_by b.floor) (sym calls);
          })
    ]

seats_left : (cs : List Call) (b : BoardState) → length (board_by b cs).pins ≡ length b.pins
seats_left [] b = refl
seats_left (c ∷ cs) b = seats_left cs (next_board b c) ∙ seats_stay b c

pub boards_same : (xs ys : List Call) (b : BoardState) → length b.pins ≡ SEATS → MakesCopies b xs → MakesCopies b ys
    → ((t : ℕ) → filter (is_of t) xs ≡ filter (is_of t) ys) → board_by b xs ≡ board_by b ys
boards_same xs ys b long makes_x makes_y same =
    let pins : (board_by b xs).pins ≡ (board_by b ys).pins =
    same_elements (board_by b xs).pins (board_by b ys).pins (seats_left xs b ∙ sym (seats_left ys b)) (λ t.
    elim (cases_lt t (length b.pins)) [
      | inl low ↦
          (ends_at xs b t low makes_x).pin ∙ ap (pin_by b.floor (pin_at b.pins t)) (same t) ∙ sym ((ends_at ys b t low makes_y).pin)
      | inr high ↦
          pin_beyond (board_by b xs).pins t (omega (arith, high, seats_left xs b))
          ∙ sym (pin_beyond (board_by b ys).pins t (omega (arith, high, seats_left ys b)))
    ]) in
    let low : 0 < length b.pins = omega (arith, long) in
    let floors : (board_by b xs).floor ≡ (board_by b ys).floor =
    (ends_at xs b 0 low makes_x).floor ∙ ap (floor_by b.floor) (same 0) ∙ sym ((ends_at ys b 0 low makes_y).floor) in
    ap (λ f. record { floor = f; pins = (board_by b xs).pins }) floors
    ∙ ap (λ ps. record { floor = (board_by b ys).floor; pins = ps }) pins

-- The store that calls leave

pub board_left : (cs : List Call) (s : Store) → (store_by s cs).board ≡ board_by s.board cs
board_left [] s = refl
board_left (c ∷ cs) s = board_left cs (next_store s c)

pub desk_left : (cs : List Call) (s : Store) → (store_by s cs).desk ≡ desk_by s.desk (filter is_desks cs)
desk_left [] s = refl
desk_left (Applies batch taken next ∷ cs) s = desk_left cs (next_store s (Applies batch taken next))
desk_left (Collects next ∷ cs) s = desk_left cs (next_store s (Collects next))
desk_left (Raises copy ∷ cs) s = desk_left cs (next_store s (Raises copy))
desk_left (Pins other ∷ cs) s = desk_left cs (next_store s (Pins other))
desk_left (Settles other n ∷ cs) s = desk_left cs (next_store s (Settles other n))
desk_left (Unpins other ∷ cs) s = desk_left cs (next_store s (Unpins other))
desk_left (Enters other ∷ cs) s = desk_left cs (next_store s (Enters other))
desk_left (Asks other n request answer ∷ cs) s = desk_left cs (next_store s (Asks other n request answer))
