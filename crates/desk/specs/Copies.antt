-- Copies of pins, and pins by their numbers apart from whether they are there.
use Rattle.std.specs.Prelude.{ℕ, Bool, List, [], ◌∷◌, Option, None, length, slice_index_or}
use Rattle.block_reclamation.specs.{declared.copies.PinCopy.PinCopy, Board.BoardState, Copies.{copy_of, number_if}}
use Rattle.store_steps.specs.Desks.{DeskView}

-- the copy of a desk's last number and the pins of a board
abbrev pub copied : DeskView → BoardState → PinCopy
copied desk board = copy_of (length desk.last.batches) board.pins

-- the pins with these numbers that are there
abbrev pub kept_pins : List Bool → List ℕ → List (Option ℕ)
kept_pins [] _ = []
kept_pins (there ∷ more) [] = []
kept_pins (there ∷ more) (number ∷ numbers) = number_if there number ∷ kept_pins more numbers

-- the pin of a seat
abbrev pub kept_pin : List (Option ℕ) → ℕ → Option ℕ
kept_pin pins seat = slice_index_or pins seat None
