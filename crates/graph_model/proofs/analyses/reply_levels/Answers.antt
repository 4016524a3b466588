use Rattle.std.{proofs.Common.{◌≡◌, ◌∙◌, Some, sym, ap, inr}, specs.Prelude.{position, bytes_eq}}
use Rattle.graph_types.specs.Answer.{reached}
use Rattle.graph_types.proofs.AnalysisReplies.{levels_answer}
use Rattle.graph_model.proofs.analyses.reply_levels.Goals as goal

pub returns : goal.returns
returns c =
    let names = c.as_slice-2.ensures in
    let read = c.deref.ensures.value in
    let at : Some c.in-Some.source ≡ position (bytes_eq c.args.source.now) c.args.content.now.names =
    sym c.in-Some.is ∙ c.place_in.ensures ∙ ap (position (bytes_eq c.args.source.now)) c.as_slice.ensures
    in
    inr (levels_answer c.args.content.now c.args.filter.now c.in_ok-filter.filter c.in_ok-filter.ensures.found
    c.in_ok-filter.ensures.refused
    c.args.source.now c.in-Some.source c.in_ok-levels.levels.items c.of.result at c.in_ok-levels.ensures
    (c.of.ensures ∙ c.in_ok-rows.ensures ∙ (λ i. reached (names i) (read i))))
