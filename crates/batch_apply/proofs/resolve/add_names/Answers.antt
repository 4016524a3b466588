use Rattle.std.proofs.Common.{◌≡◌, ◌∷◌, ◌+◌, drop, drop-cons, rules}
use Rattle.graph_types.specs.Parts.{names_after_all}
use Rattle.graph_types.proofs.Cases.{err_then}
use Rattle.batch_apply.{specs.Plan.IsRefusal, proofs.Names.refused_all}
use Rattle.batch_apply.proofs.resolve.add_names.Goals as goal

pub returns-in_err-add_op_names-clause-refused : goal.returns-in_err-add_op_names-clause-refused
returns-in_err-add_op_names-clause-refused c =
    let step : drop c.loop-op.op-index c.args.ops.now ≡ c.op-item.result ∷ drop (c.loop-op.op-index + 1) c.args.ops.now =
    search (rules, drop-cons) in
    err_then c.from_residual.result
    (λ error. IsRefusal error c.args.names.now (names_after_all c.args.ops.now c.args.names.now.names)) c.in_err-add_op_names.field-0.0
    c.from_residual.ensures.1
    (refused_all c.in_err-add_op_names.field-0.0 c.args.names.now c.loop-op.names c.args.ops.now c.loop-op.op-index c.op-item.result
    step c.loop-op.invariant.0 c.loop-op.invariant.1 c.in_err-add_op_names.ensures.refused)
