use Rattle.std.{proofs.Common.{◌∙◌, inr}, specs.Prelude.zip}
use Rattle.graph_types.proofs.AnalysisReplies.{cores_answer}
use Rattle.graph_model.proofs.analyses.reply_cores.Goals as goal

pub returns : goal.returns
returns c =
    inr (cores_answer c.args.content.now c.args.filter.now c.in_ok-filter.filter c.in_ok-filter.ensures.found
    c.in_ok-filter.ensures.refused c.in_ok-numbers.numbers.items c.of.result c.in_ok-numbers.ensures
    (c.of.ensures ∙ c.in_ok-rows.ensures ∙ (λ i. zip (c.as_slice.ensures i) (c.deref.ensures.value i))))
