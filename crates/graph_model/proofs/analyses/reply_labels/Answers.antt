use Rattle.std.{proofs.Common.{◌<◌, ◌∙◌, ℕ, List, length, sym, subst, inr}, specs.Prelude.{All, zip}}
use Rattle.graph_types.specs.{Graph.graph_of, Answer.names_of_vertices}
use Rattle.graph_types.proofs.AnalysisReplies.{labels_below, labels_answer}
use Rattle.graph_model.proofs.analyses.reply_labels.Goals as goal

pub name_labels-requires : goal.name_labels-requires
name_labels-requires c =
    let below = labels_below c.in_ok-filter.filter
    (graph_of c.args.content.now) c.in_ok-labels.labels.items c.in_ok-labels.ensures in
    subst (λ (names : List (List ℕ)). All (λ label. label < length names) c.deref.result.now) (sym c.as_slice.ensures)
    (subst (λ (labels : List ℕ). All (λ label. label < length c.args.content.now.names) labels) (sym c.deref.ensures.value) below)

pub returns : goal.returns
returns c =
    inr (labels_answer c.args.content.now c.args.filter.now c.in_ok-filter.filter c.in_ok-filter.ensures.found
    c.in_ok-filter.ensures.refused c.in_ok-labels.labels.items c.of.result c.in_ok-labels.ensures
    (c.of.ensures ∙ c.in_ok-rows.ensures ∙ (λ i. zip (c.as_slice.ensures i) (names_of_vertices (c.as_slice.ensures i) (c.deref.ensures.value i)))))
