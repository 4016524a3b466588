use Rattle.std.proofs.Common.{◌≡◌, set, ap, ◌∙◌, arith}
use Rattle.block_reclamation.{specs.Copies.settled_number, proofs.Seats.seat_next}
use Rattle.block_reclamation.proofs.copies.settled_numbers.Goals as goal

pub loop-seat-preserved : goal.loop-seat-preserved
loop-seat-preserved c = record {
  copied = ap (set c.loop-seat.numbers c.loop-seat.seat) c.settled_number.ensures
      ∙ seat_next settled_number c.loop-seat.numbers c.args.pins.now c.loop-seat.seat _ (omega (arith, c.requires))
      (omega (arith, c.requires)) c.loop-seat.invariant.copied;
  within = omega arith;
}
