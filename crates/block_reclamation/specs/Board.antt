-- A board: the floor, and the pin of each seat. What was retired at latest with the floor may be reused; what else may, the copy of
-- the pins tells (acquire and release of Aspen, PLDI 2019).
use Rattle.std.specs.Prelude.{◌≡◌, ℕ, ◌≤◌, List, length, replicate, Option, None, IfSome, IsSomeAnd, ◌⊎◌, slice_set}
use Rattle.block_reclamation.specs.{declared.copies.{Pin.Pin, TheConstants.SEATS}, Copies.pin_at}

pub record BoardState : Type 0 where
  pub floor : ℕ
  pub pins : List (Option Pin)

-- floor 0, and no seat has a pin
abbrev pub no_pins : BoardState
no_pins = record { floor = 0; pins = replicate SEATS None }

-- the board with the pin of that seat changed, and nothing else
abbrev pub with_pin : BoardState → ℕ → Option Pin → BoardState
with_pin board seat pin = record board { pins = slice_set board.pins seat pin }

-- a number that is at most each pin
abbrev pub IsBelowPins : ℕ → List (Option Pin) → Type 0
IsBelowPins floor pins = (seat : ℕ) → IfSome (pin_at pins seat) (λ pin. floor ≤ pin.number)

-- there are sixteen seats, and the floor is at most each pin
pub record IsBoard (board : BoardState) : Type 0 where
  pub seats : length board.pins ≡ SEATS
  pub below_pins : IsBelowPins board.floor board.pins

-- the least of a number and all pins
pub record IsLeast (last : ℕ) (pins : List (Option Pin)) (floor : ℕ) : Type 0 where
  pub below_last : floor ≤ last
  pub below_pins : IsBelowPins floor pins
  pub reached : (floor ≡ last) ⊎ ((seat : ℕ) × IsSomeAnd (pin_at pins seat) (λ pin. pin.number ≡ floor))
