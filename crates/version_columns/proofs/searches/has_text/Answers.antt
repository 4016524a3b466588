use Rattle.std.proofs.Common.{sym, ◌∙◌}
use Rattle.version_columns.proofs.SearchSteps.{begins_with}
use Rattle.version_columns.proofs.searches.has_text.Goals as goal

pub returns : goal.returns
returns c =
    sym (begins_with c.args.text.now c.loop-rest.rest.now (sym c.starts_with.ensures.value ∙ c.loop-rest-test.false)) ∙ c.loop-rest.invariant
