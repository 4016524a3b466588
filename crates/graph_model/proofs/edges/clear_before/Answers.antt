-- What `retain` keeps is a filter.
use Rattle.std.proofs.{Common.not, Common.rules, lemmas.Fn.filter_same}
use Rattle.graph_types.specs.Step.{was_before}
use Rattle.graph_model.proofs.edges.clear_before.Goals as goal

pub returns : goal.returns
returns c = filter_same _ (λ e. not (was_before c.args.time e)) _ (λ x b f' k. search rules) _ _ c.retain.ensures.filtered
