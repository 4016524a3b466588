use Rattle.std.proofs.Common.{◌∙◌, sym, ap, get_or, Bool}
use Rattle.block_reclamation.specs.Copies.{number_if}
use Rattle.desk.{specs.Copies.kept_pin, proofs.Filling.pins_at}
use Rattle.desk.proofs.copies.KeptPins.pin.Goals as goal

pub returns-then-self-seat : goal.returns-then-self-seat
returns-then-self-seat c =
    let k = c.self.inside in
    ap (λ (b : Bool). number_if b (get_or k.numbers c.args.seat 0)) (sym c.if-self-seat.true)
    ∙ sym (pins_at k.are_there k.numbers c.args.seat (c.self.told.1 ∙ sym c.self.told.0))
    ∙ ap (λ ps. kept_pin ps c.args.seat) c.self.view_is

pub returns-else-self-seat : goal.returns-else-self-seat
returns-else-self-seat c =
    let k = c.self.inside in
    ap (λ (b : Bool). number_if b (get_or k.numbers c.args.seat 0)) (sym c.if-self-seat.false)
    ∙ sym (pins_at k.are_there k.numbers c.args.seat (c.self.told.1 ∙ sym c.self.told.0))
    ∙ ap (λ ps. kept_pin ps c.args.seat) c.self.view_is
