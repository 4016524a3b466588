use Rattle.std.proofs.Common.{◌∙◌, List, ℕ, length, ap, arith}
use Rattle.graph_types.proofs.ListPlaces.{no_number}
use Rattle.block_pool.{specs.{Chains.stack_of, declared.numbers.TheConstants.LOOSE}, proofs.Stacking.shorter_moved}
use Rattle.block_pool.proofs.numbers.Numbers.loosen.Goals as goal

pub height-requires : goal.height-requires
height-requires c = omega (arith, c.loosen.invariant.kept.sorted.many, c.requires.within)

pub move_top-requires-clause-kept : goal.move_top-requires-clause-kept
move_top-requires-clause-kept c = c.loosen.invariant.kept

pub move_top-requires-clause-fits : goal.move_top-requires-clause-fits
move_top-requires-clause-fits c = record {
  held = λ copy low is. absurd (omega (arith, low));
  late = λ copy is less. absurd (omega (arith, is));
}

pub loosen-preserved : goal.loosen-preserved
loosen-preserved c = record {
  kept = c.move_top.ensures.kept;
  same = record {
    same = c.move_top.ensures.same.same ∙ c.loosen.invariant.same.same;
    pins = c.move_top.ensures.same.pins ∙ c.loosen.invariant.same.pins;
  };
  least = c.move_top.ensures.least ∙ c.loosen.invariant.least;
}

pub loosen-smaller : goal.loosen-smaller
loosen-smaller c =
    let lists : List (List ℕ) = c.loosen.self.retired.lists in
    let after = ap (λ ls. length (stack_of ls c.args.stack)) c.move_top.ensures.lists in
    let less =
    shorter_moved lists c.args.stack LOOSE (omega (arith, c.loosen.invariant.kept.sorted.many, c.requires.within)) c.requires.other
    (omega (arith, c.height.ensures, c.loosen-test.true)) in
    omega (arith, after, less)

pub returns-clause-empty : goal.returns-clause-empty
returns-clause-empty c =
    no_number (stack_of c.loosen.self.retired.lists c.args.stack) (omega (arith, c.height.ensures, c.loosen-test.false))
