use Rattle.std.proofs.Common.{subst}
use Rattle.graph_version.specs.{Versions.content, Rows.row_of}
use Rattle.batch_apply.specs.Planned.{IsPlan}
use Rattle.batch_apply.proofs.planning.plan_with.Goals as goal

pub returns-clause-plan : goal.returns-clause-plan
returns-clause-plan g c =
    subst (λ ops. IsPlan c.args.workers ops (content c.args.version.now) (row_of c.args.version.now.rows) c.in_ok-plan_ops.field-0)
    c.ops-ops.ensures.ops c.in_ok-plan_ops.ensures.plan
