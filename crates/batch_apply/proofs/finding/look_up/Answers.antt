use Rattle.std.proofs.Common.{◌≡◌, ◌<◌, ◌≤◌, [], arith}
use Rattle.std.proofs.lemmas.Result.{IfOk-weaker}
use Rattle.batch_apply.specs.Plan.{AreFound}
use Rattle.batch_apply.proofs.finding.look_up.Goals as goal

pub returns-clause-found : goal.returns-clause-found
returns-clause-found g c =
    let names = c.args.names.now.names in
    let ops = c.args.ops.now in
    IfOk-weaker c.find_all.result (λ v. AreFound names ops v.items) (λ v. 2 ≤ c.args.workers → AreFound names ops v.items)
    (λ v are many. are) c.find_all.ensures

pub returns-clause-alone : goal.returns-clause-alone
returns-clause-alone g c =
    IfOk-weaker c.find_all.result (λ v. AreFound c.args.names.now.names c.args.ops.now v.items)
    (λ v. c.args.workers < 2 → v.items ≡ []) (λ v are few. absurd (omega (arith, few, c.if-workers-lt2.false))) c.find_all.ensures
