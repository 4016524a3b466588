use Rattle.std.proofs.Common.{◌≡◌, ◌∷◌, ◌∙◌, ◌<◌, ℕ, List, [], Option, None, Some, length, arith, sym, subst}
use Rattle.graph_types.specs.Analyses.{LeadsTo}
use Rattle.graph_version.specs.Versions.{VersionView, content}
use Rattle.graph_levels.specs.{Near.AreLevelsSoFar, Search.{HasLevel, level_of}}
use Rattle.graph_walks.proofs.PathSteps.{all_found, deep_enough, no_path, same_at}
use Rattle.graph_walks.proofs.paths.path.Goals as goal

pub returns-in_default : goal.returns-in_default
returns-in_default c =
    let g = content c.args.incoming.now in
    let f = c.args.filter.now in
    let t = c.args.target.0 in
    let levels : List (Option ℕ) = c.in_ok-levels.levels.items in
    let bound = c.in_ok-levels.ensures.0 in
    let are : AreLevelsSoFar (length g.names) (LeadsTo f g) (c.args.source.0 ∷ []) bound levels =
    subst (λ (w : VersionView). AreLevelsSoFar (length (content w).names) (LeadsTo f (content w)) (c.args.source.0 ∷ []) bound levels)
    c.version.ensures c.in_ok-levels.ensures.1 in
    let long = are.one_each in
    let lt : t < length levels = (let in' = c.requires.target in omega arith) in
    let none : level_of levels t ≡ None = same_at levels t c.index.result.now lt c.index.ensures ∙ c.in_default.is in
    no_path (LeadsTo f g) (length g.names) c.args.source.0 t bound levels are c.requires.target
    (all_found t levels bound none c.in_ok-levels.ensures.2) none

pub walk_back-requires-clause-levels : goal.walk_back-requires-clause-levels
walk_back-requires-clause-levels c =
    let g = content c.args.incoming.now in
    let f = c.args.filter.now in
    let t = c.args.target.0 in
    let levels : List (Option ℕ) = c.in_ok-levels.levels.items in
    let bound = c.in_ok-levels.ensures.0 in
    let are : AreLevelsSoFar (length g.names) (LeadsTo f g) (c.args.source.0 ∷ []) bound levels =
    subst (λ (w : VersionView). AreLevelsSoFar (length (content w).names) (LeadsTo f (content w)) (c.args.source.0 ∷ []) bound levels)
    c.version.ensures c.in_ok-levels.ensures.1 in
    let long = are.one_each in
    let lt : t < length levels = (let in' = c.requires.target in omega arith) in
    let some : HasLevel levels c.in-Some.level t = same_at levels t c.index.result.now lt c.index.ensures ∙ c.in-Some.is in (
      bound,
      subst (λ (xs : List (Option ℕ)). AreLevelsSoFar (length g.names) (LeadsTo f g) (c.args.source.0 ∷ []) bound xs)
          (sym c.deref.ensures.value) are,
      deep_enough t c.in-Some.level levels bound some c.in_ok-levels.ensures.2,
    )
