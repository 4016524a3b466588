use Rattle.std.proofs.Common.{refl, arith}
use Rattle.block_pool.{specs.Kept.statuses, proofs.Stacking.{restacked, sorted_least, needed_none}}
use Rattle.block_pool.proofs.numbers.Numbers.recall.Goals as goal

pub returns-then-reach-self-clause-late : goal.returns-then-reach-self-clause-late
returns-then-reach-self-clause-late c =
    c.requires.sorted.late c.args.copy.now (omega (arith, c.reach.ensures, c.if-reach-self.true))

pub returns-clause-kept : goal.returns-clause-kept
returns-clause-kept c =
    let n = c.loosen.new.self in
    let k = c.loosen.ensures.kept in
    restacked n k n.retired n.pins _ refl refl k.seats (sorted_least k.sorted _ c.loosen.ensures.empty)

pub returns-clause-late : goal.returns-clause-late
returns-clause-late c = rw c.loosen.ensures.empty (needed_none c.args.copy.now (statuses c.loosen.new.self))
