use Rattle.std.proofs.Common.{◌≡◌, ℕ, rules, inr, subst}
use Rattle.graph_types.specs.{Analyses.AreLevels, Answer.resolved_filter, Step.number_of, declared.ids.Filter.Filter}
use Rattle.graph_levels.specs.Reached.{AreReached, TellLevels}
use Rattle.graph_version.specs.Versions.{content}
use Rattle.version_answers.proofs.NamedRows.{each_told, rows_told}
use Rattle.version_answers.proofs.numbered.answer_levels.Goals as goal

pub returns-in-Ok-Each : goal.returns-in-Ok-Each
returns-in-Ok-Each c =
    let g = content c.args.version.now in
    let source : c.in-Some.source ≡ number_of g.names c.args.source.now = search rules in
    inr (
      search rules,
      each_told (resolved_filter g c.args.filter.now) g (number_of g.names c.args.source.now) c.in-Ok-Each.levels
          (subst (λ (s : ℕ). AreLevels (resolved_filter g c.args.filter.now) g s c.in-Ok-Each.levels) source
          (subst (λ (f : Filter). AreLevels f g c.in-Some.source c.in-Ok-Each.levels) c.in_ok-view.ensures.found
          (subst (TellLevels c.in_ok-view.view g c.in-Some.source) c.in-Ok-Each.field-0-is c.in-Ok-Each.ensures.levels))),
    )

pub returns-in-Ok-Reached : goal.returns-in-Ok-Reached
returns-in-Ok-Reached c =
    let g = content c.args.version.now in
    let source : c.in-Some.source ≡ number_of g.names c.args.source.now = search rules in
    inr (
      search rules,
      rows_told (resolved_filter g c.args.filter.now) g (number_of g.names c.args.source.now) c.in-Ok-Reached.rows
          (subst (λ (s : ℕ). AreReached (resolved_filter g c.args.filter.now) g s c.in-Ok-Reached.rows) source
          (subst (λ (f : Filter). AreReached f g c.in-Some.source c.in-Ok-Reached.rows) c.in_ok-view.ensures.found
          (subst (TellLevels c.in_ok-view.view g c.in-Some.source) c.in-Ok-Reached.field-0-is c.in-Ok-Reached.ensures.levels))),
    )
