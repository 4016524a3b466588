use Rattle.std.proofs.{Common.{◌≡◌, ◌∙◌, ◌+◌, ◌<◌, ℕ, length, ap, subst, arith}, lemmas.Grind.common_steps}
use Rattle.graph_version.specs.{Versions.content, Rows.row_of}
use Rattle.batch_apply.specs.Planned.{IsPlan, IsSharedPlan, workers_for}
use Rattle.batch_apply.proofs.planning.plan_shared.Goals as goal

some_share : (workers many : ℕ) → 0 < workers → 0 < workers_for workers many
some_share workers many some = grind (arith, common_steps)

pub returns-clause-plan : goal.returns-clause-plan
returns-clause-plan g c =
    let rows = row_of c.args.version.now.rows in
    let many : ℕ = length c.ops-ops.result.now + length c.in_ok-old.old.items in
    let sharing : c.workers_for-sharing.result ≡ workers_for c.args.workers many =
    c.workers_for-sharing.ensures
    ∙ ap (λ n. workers_for c.args.workers (length c.ops-ops.result.now + n)) (c.len.ensures ∙ c.in_ok-old.old.ok.0) in
    subst (λ ops. IsSharedPlan c.args.workers ops (content c.args.version.now) rows c.in_ok-plan_ops.field-0)
    c.ops-ops.ensures.ops (record {
      old = c.in_ok-old.old.items;
      old_are = c.in_ok-old.ensures;
      some = some_share c.args.workers many c.requires.workers;
      planned = subst (λ w. IsPlan w c.ops-ops.result.now (content c.args.version.now) rows c.in_ok-plan_ops.field-0)
          sharing c.in_ok-plan_ops.ensures.plan;
    })
