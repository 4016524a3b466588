use Rattle.std.proofs.Common.{[]}
use Rattle.graph_version.specs.Versions.{content}
use Rattle.batch_apply.proofs.Found.{nothing_found}
use Rattle.batch_apply.proofs.planning.plan.Goals as goal

pub plan_alone-requires-clause-known : goal.plan_alone-requires-clause-known
plan_alone-requires-clause-known c = (λ place. [], nothing_found (content c.args.version.now).names c.ops.result.now)
