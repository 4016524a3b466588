use Rattle.std.proofs.{Common.{◌∙◌, set, ap, refl}, Math.ListN.length-set}
use Rattle.block_pool.proofs.Stacking.{restacked, sorted_pin}
use Rattle.block_pool.proofs.numbers.Numbers.repin.Goals as goal

pub returns-clause-kept : goal.returns-clause-kept
returns-clause-kept c =
    let n = c.loosen.new.self in
    let k = c.loosen.ensures.kept in
    restacked n k n.retired _ n.least refl refl (length-set n.pins c.args.seat c.args.pin ∙ k.seats)
    (sorted_pin k.sorted c.args.seat c.args.pin c.loosen.ensures.empty)

pub returns-clause-statuses : goal.returns-clause-statuses
returns-clause-statuses c = c.loosen.ensures.same.same

pub returns-clause-pins : goal.returns-clause-pins
returns-clause-pins c = ap (λ ps. set ps c.args.seat c.args.pin) c.loosen.ensures.same.pins
