use Rattle.std.proofs.Common.{set, ap, ◌∙◌, arith}
use Rattle.epoch_core.specs.Worlds.{seat_pin}
use Rattle.block_reclamation.proofs.Seats.{seat_next}
use Rattle.epoch_core.proofs.sessions.seat_pins.Goals as goal

pub loop-seat-preserved : goal.loop-seat-preserved
loop-seat-preserved c = record {
  copied = ap (set c.loop-seat.pins c.loop-seat.seat) (c.seat_pin.ensures ∙ ap seat_pin c.index-sessions-seat.is)
      ∙ seat_next seat_pin c.loop-seat.pins c.args.sessions.now c.loop-seat.seat _ (omega arith)
      c.requires c.loop-seat.invariant.copied;
  within = omega arith;
}
