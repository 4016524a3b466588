use Rattle.std.proofs.Common.{◌≡◌, ◌∙◌, sym, ap, arith, length}
use Rattle.desk.{proofs.Filling.{filled_next, filled_all, length-pins}}
use Rattle.desk.proofs.copies.KeptPins.to_pins.Goals as goal

pub loop-seat-preserved : goal.loop-seat-preserved
loop-seat-preserved c =
    let long : length c.args.self.now ≡ 16 =
    ap length (sym c.self.view_is) ∙ length-pins c.self.inside.are_there c.self.inside.numbers (c.self.told.1 ∙ sym c.self.told.0)
    ∙ c.self.told.1 in
    filled_next c.args.self.now _ _ c.loop-seat.seat 16 long c.loop-seat-test.true c.loop-seat.invariant c.pin.ensures

pub returns : goal.returns
returns c =
    let long : length c.args.self.now ≡ 16 =
    ap length (sym c.self.view_is) ∙ length-pins c.self.inside.are_there c.self.inside.numbers (c.self.told.1 ∙ sym c.self.told.0)
    ∙ c.self.told.1 in
    filled_all c.args.self.now _ c.loop-seat.seat 16 long (omega arith) c.loop-seat.invariant
