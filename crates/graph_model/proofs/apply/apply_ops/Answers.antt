-- What one operation exceeds, all of them exceed.
use Rattle.std.proofs.{Common.subst, lemmas.Result.err_from_is_err_and}
use Rattle.graph_types.specs.Graph.{graph_in}
use Rattle.graph_model.{specs.{Drafts.shown_by, Refusals.Exceeds}, proofs.BatchRefusals.Exceeds-drop}
use Rattle.graph_model.proofs.apply.apply_ops.Goals as goal

pub returns-in_err-apply-clause-refused : goal.returns-in_err-apply-clause-refused
returns-in_err-apply-clause-refused c =
    let p = err_from_is_err_and c.from_residual.result c.from_residual.ensures.1 in
    rw (p.1, p.2)
    (subst (Exceeds c.in_err-apply.field-0.0) c.loop-op.invariant.rest
    (Exceeds-drop c.in_err-apply.field-0.0 c.args.ops.now c.loop-op.op-index c.op-item.result
    (graph_in c.args.limits (shown_by c.loop-op.draft)) c.loop-op-test.true c.op-item.is c.in_err-apply.ensures.refused))
