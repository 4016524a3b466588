-- A seat of a board that is pinned twice.
use Rattle.std.proofs.Common.{◌≡◌, ℕ}
use Rattle.std.specs.declared.option.Option.{Option}
use Rattle.block_reclamation.specs.{declared.copies.Pin.Pin, Board.{BoardState, with_pin}}
use Rattle.graph_types.proofs.ListPlaces.{set_twice}

pub pin_twice : (b : BoardState) (s : ℕ) (x y : Option Pin) → with_pin (with_pin b s x) s y ≡ with_pin b s y
pin_twice b s x y = λ i. record { floor = b.floor; pins = set_twice b.pins s x y i }
