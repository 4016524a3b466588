-- The names that one operation makes are among those that are left in the end.
use Rattle.std.proofs.{Common.◌≤◌, Common.length, Common.subst, lemmas.Result.err_from_is_err_and}
use Rattle.graph_types.specs.Parts.{names_after, names_after_all}
use Rattle.graph_types.proofs.OperationParts.{length-names_after_all-drop}
use Rattle.graph_model.proofs.BatchRefusals.{IsNamesRefusal-more}
use Rattle.graph_model.proofs.names.names_after_all.Goals as goal

pub returns-in_err-make_names_of-clause-refused : goal.returns-in_err-make_names_of-clause-refused
returns-in_err-make_names_of-clause-refused c =
    let more : length (names_after c.op-item.result c.loop-op.all.items) ≤ length (names_after_all c.args.ops.now c.args.names.now) =
    subst (λ xs. length (names_after c.op-item.result c.loop-op.all.items) ≤ length xs) c.loop-op.invariant.rest
    (length-names_after_all-drop c.args.ops.now c.loop-op.op-index c.op-item.result c.loop-op.all.items c.loop-op-test.true
    c.op-item.is) in
    let p = err_from_is_err_and c.from_residual-in_err-make_names_of.result c.from_residual-in_err-make_names_of.ensures.1 in
    rw (p.1, p.2) (IsNamesRefusal-more _ _ _ _ more c.in_err-make_names_of.ensures.refused)
