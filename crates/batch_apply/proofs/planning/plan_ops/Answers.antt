use Rattle.std.proofs.Common.{◌∙◌, [], map, ap, sym, subst, length}
use Rattle.graph_version.specs.{Versions.content, Rows.row_of}
use Rattle.batch_apply.specs.{Plan.{shown_op, WereFound}, OldRows.expiry_time, declared.plans.Plan.Plan}
use Rattle.batch_apply.proofs.{Needs.few_old_rows, Planned.{planned, old_resolved}}
use Rattle.vertex_names.specs.Book.{Book}
use Rattle.batch_apply.proofs.Found.{looked_up}
use Rattle.batch_apply.proofs.planning.plan_ops.Goals as goal

pub name_ops-requires-clause-found : goal.name_ops-requires-clause-found
name_ops-requires-clause-found g c = (
  λ place. [],
  subst (λ found. WereFound (content c.args.version.now).names c.args.ops.now found) (sym c.deref.ensures.value)
      (subst (λ (b : Book). WereFound b.names c.args.ops.now c.in_ok-found.found.items) c.names-names.ensures.names
      (looked_up c.args.workers c.names-names.result.now.names c.args.ops.now c.in_ok-found.found.items
      c.in_ok-found.ensures.found c.in_ok-found.ensures.alone)),
)

pub shards_at_once-requires-clause-few : goal.shards_at_once-requires-clause-few
shards_at_once-requires-clause-few g c lifetimes outlive = rw c.as_slice.ensures.value c.in_ok-named.ensures.few

pub shards_at_once-requires-clause-placed : goal.shards_at_once-requires-clause-placed
shards_at_once-requires-clause-placed g c lifetimes outlive = rw c.as_slice.ensures.value c.in_ok-named.ensures.placed

pub shards_at_once-requires-clause-valid : goal.shards_at_once-requires-clause-valid
shards_at_once-requires-clause-valid g c lifetimes outlive = rw c.as_slice.ensures.value c.in_ok-named.ensures.changes

pub shards_at_once-requires-clause-few_old : goal.shards_at_once-requires-clause-few_old
shards_at_once-requires-clause-few_old g c lifetimes outlive =
    few_old_rows c.args.version.now c.in_ok-named.ensures.version (expiry_time c.args.ops.now) _
    c.requires.old

pub shards_at_once-requires-clause-old : goal.shards_at_once-requires-clause-old
shards_at_once-requires-clause-old g c lifetimes outlive = (
  row_of c.args.version.now.rows,
  old_resolved (content c.args.version.now).limits.weight c.args.ops.now (content c.args.version.now).names
      (content c.args.version.now).kinds c.as_slice.result.now
      (row_of c.args.version.now.rows) _ (ap (map shown_op) c.as_slice.ensures.value ∙ c.in_ok-named.ensures.ops)
      c.requires.old,
)

pub returns-clause-plan : goal.returns-clause-plan
returns-clause-plan g c =
    let is = c.plan_of.ensures in
    planned c.args.version.now c.in_ok-named.ensures.version c.args.workers c.args.ops.now c.as_slice.result.now _
    c.plan_of.result (ap (λ (p : Plan). p.names) is ∙ c.in_ok-named.ensures.names)
    (ap (λ (p : Plan). p.kinds) is ∙ c.in_ok-named.ensures.kinds)
    (ap (λ (p : Plan). p.operations) is ∙ ap length (sym c.as_slice.ensures.value))
    (ap (map shown_op) c.as_slice.ensures.value ∙ c.in_ok-named.ensures.ops)
    (rw c.as_slice.ensures.value c.in_ok-named.ensures.few)
    c.requires.old
    (λ rows are. rw is (c.in_ok-planned.ensures.shards rows are)) (λ rows are. rw is (c.in_ok-planned.ensures.needs rows are))
