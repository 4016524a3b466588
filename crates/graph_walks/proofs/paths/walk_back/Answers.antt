use Rattle.std.proofs.Common.{◌≡◌, ◌-◌, ◌+◌, ℕ, zero, suc, List, Option, replicate, arith, subst, sym, add-one, ap, ◌∙◌}
use Rattle.std.specs.List.{Contains}
use Rattle.graph_walks.specs.Paths.{IsPath, turned}
use Rattle.graph_levels.specs.Search.{HasLevel}
use Rattle.graph_walks.proofs.PathSteps.{IsBack, back_at_last, begin_back, step_back}
use Rattle.graph_walks.proofs.paths.walk_back.Goals as goal

pub back-preserved : goal.back-preserved
back-preserved g c =
    let step = turned (g.S.Steps.leads c.args.back.now) in
    let n = g.S.Steps.vertices c.args.back.now in
    let levels = c.args.levels.now in
    let p = c.back.place - 1 in
    let at = c.back.at in
    let here : suc p ≡ c.back.place = omega (arith, c.back-test.true) in
    let now : IsBack step c.args.source c.args.target c.args.level levels c.back.path.items (suc p) at =
    subst (λ (k : ℕ). IsBack step c.args.source c.args.target c.args.level levels c.back.path.items k at) (sym here) c.back.invariant in
    step_back step n c.args.source c.args.target c.requires.levels.0 levels c.requires.levels.1 c.args.level
    (λ a b edge. let in' = c.requires.within b a edge in (in'.1, in'.0)) c.requires.levels.2 c.back.path.items p at c.least_at-at.result now
    (λ u edge has.
    let there : Contains c.deref.result.now u =
    subst (λ (xs : List ℕ). Contains xs u) (sym c.deref.ensures.value) ((c.in_ok-list_next.ensures u).1 edge) in
    let told = c.least_at-at.ensures u there has in
    let listed = subst (λ (xs : List ℕ). Contains xs c.least_at-at.result) c.deref.ensures.value told.0 in (
      (c.in_ok-list_next.ensures c.least_at-at.result).0 listed,
      told.1,
      told.2,
    ))

pub returns : goal.returns
returns g c =
    let step = turned (g.S.Steps.leads c.args.back.now) in
    let n = g.S.Steps.vertices c.args.back.now in
    let levels = c.args.levels.now in
    let zero_left : c.back.place ≡ 0 = omega (arith, c.back-test.false) in
    back_at_last step n c.args.source c.args.target c.requires.levels.0 levels c.requires.levels.1 c.args.level
    (λ a b edge. let in' = c.requires.within b a edge in (in'.1, in'.0)) c.requires.levels.2 c.back.path.items c.back.at
    (subst (λ (k : ℕ). IsBack step c.args.source c.args.target c.args.level levels c.back.path.items k c.back.at) zero_left c.back.invariant)
    c.requires.level
