use Rattle.std.proofs.{Common.{◌<◌, ◌≡◌, arith, length, get_or, ℕ, subst}, lemmas.List.{take_all, Elements.All-more}}
use Rattle.graph_levels.proofs.parts.join_all.Goals as goal

pub loop-target-preserved : goal.loop-target-preserved
loop-target-preserved c =
    let i = c.loop-target.invariant in
    let ts = c.args.targets.now in
    let k = c.loop-target.target-index in
    let lt : k < length ts = omega arith in
    record {
      forest = c.join.ensures.forest;
      coarser = λ label new.
          let one = c.join.ensures.coarser label new in
          let old = i.coarser label one.0 in
          (old.0, All-more (λ v. label c.args.vertex ≡ label v) ts k 0 lt old.1 one.1);
      sound = λ f g sound all. c.join.ensures.sound f g (i.sound f g sound all) (all k 0 lt);
    }

pub returns-clause-coarser : goal.returns-clause-coarser
returns-clause-coarser c = λ label new.
    let ts = c.args.targets.now in
    let old = c.loop-target.invariant.coarser label new in (
      old.0,
      subst (λ xs. (k d : ℕ) → k < length xs → label c.args.vertex ≡ label (get_or xs k d))
          (take_all c.loop-target.target-index ts (omega arith)) old.1,
    )
