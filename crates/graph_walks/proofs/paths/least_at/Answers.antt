use Rattle.std.proofs.Common.{ℕ, List, take, subst, sym, arith}
use Rattle.std.proofs.lemmas.List.{take_all, take_more}
use Rattle.graph_walks.specs.Paths.{IsLeastAt}
use Rattle.graph_walks.proofs.PathSteps.{told_least}
use Rattle.graph_walks.proofs.paths.least_at.Goals as goal

pub loop-vertex-preserved : goal.loop-vertex-preserved
loop-vertex-preserved c =
    let vertices = c.args.vertices.now in
    let i = c.loop-vertex.vertex-index in
    subst (λ (xs : List ℕ). IsLeastAt c.args.levels.now c.args.level xs c.lesser-least.result)
    (sym (take_more vertices i 0 c.loop-vertex-test.true)) (c.lesser-least.ensures (take i vertices) c.loop-vertex.invariant)

pub returns : goal.returns
returns c =
    let vertices = c.args.vertices.now in
    let least = c.loop-vertex.least in
    rw c.unwrap_or.ensures
    (told_least c.args.levels.now c.args.level vertices least c.args.other
    (subst (λ (xs : List ℕ). IsLeastAt c.args.levels.now c.args.level xs least)
    (take_all c.loop-vertex.vertex-index vertices (omega (arith, c.loop-vertex-test.false))) c.loop-vertex.invariant))
