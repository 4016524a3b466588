-- The pin of each seat: where it stands in a board's list, once it is set, settled, or copied.
use Rattle.std.proofs.Common.{◌≡◌, ℕ, zero, suc, ◌<◌, ◌≤◌, Bool, false, ◌||◌, List, map, length, set, replicate, IfSome, Some}
use Rattle.std.proofs.Common.{None, Option, inl, inr, get_or-set_other, get_or-set_same, refl, sym, ap, subst, ◌∙◌, arith, get_or}
use Rattle.std.proofs.lemmas.{Bool.{cases_lt, cases_eq}, Grind.common_steps, List.{length-replicate, length-set}}
use Rattle.std.specs.{List.list_any, Option.option_map}
use Rattle.std.proofs.{Math.ListN.get_or-map, lemmas.List.length-map}
use Rattle.block_reclamation.specs.{Board.{IsBoard, no_pins, BoardState, with_pin}, Copies.{settled, pin_at}}
use Rattle.block_reclamation.specs.declared.copies.{Pin.Pin, TheConstants.SEATS}
use Rattle.block_reclamation.specs.{Copies.{settled_number, unsettled_number, copy_of}, declared.copies.PinCopy.PinCopy}

pub none_there : (number : Option Pin → Option ℕ) (p : Option ℕ → Bool) (k : ℕ) → p (number None) ≡ false
    → list_any p (map number (replicate k None)) ≡ false
none_there number p zero never = refl
none_there number p (suc k) never =
    ap (λ t. t || list_any p (map number (replicate k None))) never ∙ none_there number p k never

pub below_pin : (o : Option Pin) (pin floor : ℕ) → option_map (λ p. p.number) o ≡ Some pin → IfSome o (λ p. floor ≤ p.number)
    → floor ≤ pin
below_pin o pin floor is low = grind (arith, common_steps)

pub settled_above : (n floor : ℕ) (pin : Option Pin) → IfSome pin (λ p. floor ≤ p.number)
    → IfSome (option_map (settled n) pin) (λ p. floor ≤ p.number)
settled_above n floor None above = tt
settled_above n floor (Some pin) above = omega (arith, above)

pub no_pin : (n s : ℕ) → pin_at (replicate n None) s ≡ None
no_pin n s = grind (arith, common_steps)

pub no_pins_board : IsBoard no_pins
no_pins_board = record {
  seats = length-replicate {A = Option Pin} 16 None;
  below_pins = λ seat. subst (λ o. IfSome o (λ p. 0 ≤ p.number)) (sym (no_pin 16 seat)) tt;
}

pub pin_set : (b : BoardState) (t other : ℕ) (pin : Option Pin) → t < length b.pins → other ≡ t
    → pin_at (set b.pins other pin) t ≡ pin
pin_set b t other pin low same =
    ap (λ o. pin_at (set b.pins o pin) t) same ∙ get_or-set_same b.pins t pin None low

pub pin_stays : (b : BoardState) (t other : ℕ) (pin : Option Pin) → (other ≡ t → ⊥)
    → pin_at (set b.pins other pin) t ≡ pin_at b.pins t
pin_stays b t other pin differ = get_or-set_other b.pins other t pin None (λ e. differ (sym e))

pub pin_beyond : (pins : List (Option Pin)) (seat : ℕ) → length pins ≤ seat → pin_at pins seat ≡ None
pin_beyond pins seat high = grind (arith, common_steps)

pub none_not : (pin : Pin) → None ≡ Some pin → ⊥
none_not pin e = cc

pub seat_low : (pins : List (Option Pin)) (seat : ℕ) (pin : Pin) → pin_at pins seat ≡ Some pin → seat < length pins
seat_low pins seat pin is =
    elim (cases_lt seat (length pins)) [
      | inl low ↦ low
      | inr high ↦ absurd (none_not pin (sym (pin_beyond pins seat high) ∙ is))
    ]

-- a seat's pin that is set, at that seat and at others
pub set_own : (pins : List (Option Pin)) (seat other : ℕ) (pin : Option Pin) → other ≡ seat → other < length pins
    → pin_at (set pins other pin) seat ≡ pin
set_own pins seat other pin same low = ap (pin_at (set pins other pin)) (sym same) ∙ get_or-set_same pins other pin None low

pub set_else : (pins : List (Option Pin)) (seat other : ℕ) (pin : Option Pin) → (other ≡ seat → ⊥)
    → pin_at (set pins other pin) seat ≡ pin_at pins seat
set_else pins seat other pin differ = get_or-set_other pins other seat pin None (λ e. differ (sym e))

pub board_with : (b : BoardState) (seat : ℕ) (pin : Option Pin) → IsBoard b → seat < SEATS
    → IfSome pin (λ p. b.floor ≤ p.number) → IsBoard (with_pin b seat pin)
board_with b seat pin board low above = record {
  seats = length-set b.pins seat pin ∙ board.seats;
  below_pins = λ t. elim (cases_eq t seat) [
    | inl same ↦
        subst (λ o. IfSome o (λ p. b.floor ≤ p.number)) (sym (pin_here b seat t pin board low same)) above
    | inr differ ↦
        subst (λ o. IfSome o (λ p. b.floor ≤ p.number)) (sym (get_or-set_other b.pins seat t pin None differ)) (board.below_pins t)
  ];
}
  where
    pin_here : (b : BoardState) (seat t : ℕ) (pin : Option Pin) → IsBoard b → seat < SEATS → t ≡ seat
        → pin_at (set b.pins seat pin) t ≡ pin
    pin_here b seat t pin board low same = ap (pin_at (set b.pins seat pin)) same
        ∙ get_or-set_same b.pins seat pin None (omega (arith, low, board.seats))

-- a pin's number
abbrev pub pin_number : Option Pin → ℕ
pin_number None = 0
pin_number (Some pin) = pin.number

-- whether a pin is settled
abbrev pub is_told : Option Pin → Bool
is_told None = false
is_told (Some pin) = pin.is_settled

-- the copy has this pin at the seat
pub record CopiesPin (copy : PinCopy) (seat : ℕ) (pin : Option Pin) : Type 0 where
  pub settled_is : get_or copy.settled seat None ≡ settled_number pin
  pub unsettled_is : get_or copy.unsettled seat None ≡ unsettled_number pin
  pub settled_seats : length copy.settled ≡ SEATS
  pub unsettled_seats : length copy.unsettled ≡ SEATS

pub copied_pin : (copy : PinCopy) (pins : List (Option Pin)) (seat : ℕ) → length pins ≡ SEATS → copy ≡ copy_of copy.last pins
    → CopiesPin copy seat (pin_at pins seat)
copied_pin copy pins seat long is = record {
  settled_is = ap (λ c. get_or c.settled seat None) is ∙ get_or-map settled_number pins seat None;
  unsettled_is = ap (λ c. get_or c.unsettled seat None) is ∙ get_or-map unsettled_number pins seat None;
  settled_seats = ap (λ c. length c.settled) is ∙ length-map pins settled_number ∙ long;
  unsettled_seats = ap (λ c. length c.unsettled) is ∙ length-map pins unsettled_number ∙ long;
}
