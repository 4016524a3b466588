-- What the plain function answers is the answer, so what was told is that one or it isn't.
use Rattle.std.proofs.Common.{◌∙◌, sym, subst}
use Rattle.graph_types.{specs.{Graph.graph_of, Answer.IsAnswer}, proofs.OneAnswer.one_answer}
use Rattle.graph_types.proofs.AnalysisReplies.{answered}
use Rattle.store_drive.proofs.readers.check_told.Goals as goal

pub returns-clause-right : goal.returns-clause-right
returns-clause-right c is =
    let g = graph_of c.args.content.now in
    let wanted = answered c.args.request.now g c.plain_reply.result c.plain_reply.ensures.answer c.in_ok-wanted.ensures.told in
    c.count.ensures.right
    (c.in_ok-told.ensures.same
    ∙ one_answer c.args.request.now g c.args.told c.plain_reply.result is wanted
    ∙ sym c.in_ok-wanted.ensures.same)

pub returns-clause-wrong : goal.returns-clause-wrong
returns-clause-wrong c other =
    let g = graph_of c.args.content.now in
    let wanted = answered c.args.request.now g c.plain_reply.result c.plain_reply.ensures.answer c.in_ok-wanted.ensures.told in
    c.count.ensures.wrong
    (λ same. other (subst (IsAnswer c.args.request.now g) (sym (sym c.in_ok-told.ensures.same ∙ same ∙ c.in_ok-wanted.ensures.same)) wanted))
