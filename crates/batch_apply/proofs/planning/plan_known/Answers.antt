use Rattle.std.proofs.Common.{List, sym, subst}
use Rattle.graph_types.specs.declared.batches.NamedOp.{NamedOp}
use Rattle.graph_version.specs.Versions.{content}
use Rattle.batch_apply.specs.Listed.{IsKnown}
use Rattle.batch_apply.proofs.planning.plan_known.Goals as goal

pub plan_alone-requires-clause-known : goal.plan_alone-requires-clause-known
plan_alone-requires-clause-known c =
    subst (λ (ops : List NamedOp). IsKnown (content c.args.version.now).names ops c.args.known.now) (sym c.ops.ensures.ops)
    c.requires.known
