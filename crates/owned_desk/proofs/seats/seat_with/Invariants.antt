use Rattle.std.proofs.Common.{◌≢◌, ◌<◌, ℕ}
use Rattle.block_reclamation.specs.Copies.{pin_at}
use Rattle.owned_desk.proofs.seats.seat_with.Given as goal

abbrev pub invariant-loop-number : goal.invariant-loop-number
invariant-loop-number l = (seat : ℕ) → seat < l.number → pin_at l.board.pins seat ≢ l.pin
