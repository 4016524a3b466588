use Rattle.std.proofs.Common.{◌∙◌, refl, sym, set, rules}
use Rattle.std.proofs.lemmas.List.{length-set}
use Rattle.desk.{specs.Copies.{kept_pins, kept_pin}, proofs.Filling.{pins_set, filled_next}}
use Rattle.desk.proofs.copies.KeptPins.of.Goals as goal

pub loop-seat-preserved : goal.loop-seat-preserved
loop-seat-preserved c =
    let i = c.loop-seat.invariant in
    let seat = c.loop-seat.seat in
    record {
      there = length-set c.loop-seat.are_there seat c.is_some.result ∙ i.there;
      numbered = length-set c.loop-seat.numbers seat c.unwrap_or.result ∙ i.numbered;
      copied = (λ j. kept_pins (set c.loop-seat.are_there seat (c.is_some.ensures j)) (set c.loop-seat.numbers seat (c.unwrap_or.ensures j)))
          ∙ pins_set c.loop-seat.are_there c.loop-seat.numbers seat (kept_pin c.args.pins seat) (i.there ∙ sym i.numbered)
          ∙ filled_next c.args.pins _ _ seat 16 (search rules) c.loop-seat-test.true i.copied refl;
    }
