use Rattle.std.proofs.Common.{◌++◌, ◌∷◌, [], Some, ℕ, subst, sym}
use Rattle.graph_walks.specs.Paths.{IsLeastAt}
use Rattle.graph_walks.proofs.PathSteps.{first_least, more_least}
use Rattle.graph_walks.proofs.paths.lesser.Goals as goal

pub returns-in-Some : goal.returns-in-Some
returns-in-Some c = λ vs is.
    let levels = c.args.levels.now in
    let level = c.args.level in
    subst (λ (m : ℕ). IsLeastAt levels level (vs ++ c.args.vertex ∷ []) (Some m)) (sym c.min.ensures)
    (more_least levels level vs c.args.vertex c.in-Some.least (subst (IsLeastAt levels level vs) c.in-Some.is is)
    (c.has_level.ensures.0 c.if-not-has_level.false))

pub returns-in-None : goal.returns-in-None
returns-in-None c = λ vs is.
    first_least c.args.levels.now c.args.level vs c.args.vertex
    (subst (IsLeastAt c.args.levels.now c.args.level vs) c.in-None.is is) (c.has_level.ensures.0 c.if-not-has_level.false)
