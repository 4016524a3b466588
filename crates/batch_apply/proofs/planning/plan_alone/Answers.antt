use Rattle.std.proofs.Common.{◌∙◌, map, ap, sym, subst, length}
use Rattle.graph_version.specs.{Versions.content, Rows.row_of}
use Rattle.batch_apply.specs.{Plan.shown_op, OldRows.{AreOldRows, expiry_time}, declared.plans.Plan.Plan}
use Rattle.batch_apply.proofs.{Needs.few_old_rows, Planned.{planned, old_resolved}}
use Rattle.batch_apply.proofs.planning.plan_alone.Goals as goal

pub shards_for-requires-clause-few : goal.shards_for-requires-clause-few
shards_for-requires-clause-few c = rw c.as_slice.ensures.value c.in_ok-named.ensures.few

pub shards_for-requires-clause-placed : goal.shards_for-requires-clause-placed
shards_for-requires-clause-placed c = rw c.as_slice.ensures.value c.in_ok-named.ensures.placed

pub shards_for-requires-clause-valid : goal.shards_for-requires-clause-valid
shards_for-requires-clause-valid c = rw c.as_slice.ensures.value c.in_ok-named.ensures.changes

pub shards_for-requires-clause-few_old : goal.shards_for-requires-clause-few_old
shards_for-requires-clause-few_old c =
    few_old_rows c.args.version.now c.in_ok-named.ensures.version (expiry_time c.args.ops.now) _
    (subst (AreOldRows (expiry_time c.args.ops.now) (row_of c.args.version.now.rows)) (sym c.as_slice-2.ensures.value)
    c.in_ok-old.ensures)

pub shards_for-requires-clause-old : goal.shards_for-requires-clause-old
shards_for-requires-clause-old c = (
  row_of c.args.version.now.rows,
  old_resolved (content c.args.version.now).limits.weight c.args.ops.now (content c.args.version.now).names
      (content c.args.version.now).kinds c.as_slice.result.now
      (row_of c.args.version.now.rows) _ (ap (map shown_op) c.as_slice.ensures.value ∙ c.in_ok-named.ensures.ops)
      (subst (AreOldRows (expiry_time c.args.ops.now) (row_of c.args.version.now.rows)) (sym c.as_slice-2.ensures.value)
      c.in_ok-old.ensures),
)

pub returns-clause-plan : goal.returns-clause-plan
returns-clause-plan c =
    let is = c.plan_of.ensures in
    planned c.args.version.now c.in_ok-named.ensures.version c.args.workers c.args.ops.now c.as_slice.result.now _
    c.plan_of.result (ap (λ (p : Plan). p.names) is ∙ c.in_ok-named.ensures.names)
    (ap (λ (p : Plan). p.kinds) is ∙ c.in_ok-named.ensures.kinds)
    (ap (λ (p : Plan). p.operations) is ∙ ap length (sym c.as_slice.ensures.value))
    (ap (map shown_op) c.as_slice.ensures.value ∙ c.in_ok-named.ensures.ops)
    (rw c.as_slice.ensures.value c.in_ok-named.ensures.few)
    (subst (AreOldRows (expiry_time c.args.ops.now) (row_of c.args.version.now.rows)) (sym c.as_slice-2.ensures.value)
    c.in_ok-old.ensures)
    (λ rows are. rw is (c.in_ok-planned.ensures.shards rows are)) (λ rows are. rw is (c.in_ok-planned.ensures.needs rows are))
