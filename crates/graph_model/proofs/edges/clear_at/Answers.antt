-- What `retain` keeps is a filter.
use Rattle.std.proofs.{Common.not, Common.rules, lemmas.Fn.filter_same}
use Rattle.graph_types.specs.Graph.{has_key}
use Rattle.graph_model.specs.Drafts.{shown_key}
use Rattle.graph_model.proofs.edges.clear_at.Goals as goal

pub returns : goal.returns
returns c = filter_same _ (λ e. not (has_key (shown_key c.args.key) e)) _ (λ x b f' k. search rules) _ _ c.retain.ensures.filtered
