-- A plan by its names and its shards.
use Rattle.std.proofs.Common.{◌≡◌, ◌≤◌, ◌-◌, ◌^◌, ℕ, List, map, min, length, ap, sym, subst, ◌∙◌, arith}
use Rattle.std.{proofs.lemmas.List.length-map, specs.List.{range_with_len, AllZip}}
use Rattle.graph_types.specs.{Limits.most_operations, Step.after_all, declared.batches.NamedOp.NamedOp}
use Rattle.edge_block.specs.{Slots.BlockView, Batches.{Resolved, resolved, resolved_by}}
use Rattle.graph_version.specs.{Rows.row_of, Kept.{vertex_book, kind_book}, Versions.{VersionView, content, IsVersion}}
use Rattle.batch_shards.specs.{Done.{layout_by, sources_in}, Spending.needed}
use Rattle.batch_apply.specs.{Plan.shown_op, Shards.{IsShardOf, latest_expiry}, OldRows.{AreOldRows, expiry_time}, Planned.IsPlan}
use Rattle.batch_apply.specs.declared.{plans.Plan.Plan, old.OldRow.OldRow, resolve.ResolvedOp.ResolvedOp}
use Rattle.batch_apply.proofs.{Needs.{same_time, exact_needs}, Resolving.as_many_shown}

-- the rows from which the operations may take edges are those by the batch's greatest time
pub old_resolved : (most : ℕ) (ops : List NamedOp) (names kinds : List (List ℕ)) (found : List ResolvedOp) (rows : ℕ → List BlockView)
    (old : List OldRow) → map shown_op found ≡ resolved_by most ops names kinds → AreOldRows (expiry_time ops) rows old
    → AreOldRows (latest_expiry (map shown_op found)) rows old
old_resolved most ops names kinds found rows old is are =
    subst (λ (t : ℕ). AreOldRows t rows old) (sym (ap latest_expiry is ∙ same_time most ops names kinds)) are

pub planned : (v : VersionView) → IsVersion v → (workers : ℕ) (ops : List NamedOp) (found : List ResolvedOp) (old : List OldRow)
    (plan : Plan) → plan.names ≡ vertex_book (after_all ops (content v))
    → plan.kinds ≡ kind_book (after_all ops (content v)) → plan.operations ≡ length found
    → map shown_op found ≡ resolved ops (content v) → length found ≤ most_operations
    → AreOldRows (expiry_time ops) (row_of v.rows) old
    → ((rows : ℕ → List BlockView) → AreOldRows (latest_expiry (map shown_op found)) rows old
    → AllZip (IsShardOf workers (map shown_op found) (layout_by rows)) (range_with_len 0 workers) plan.shards.items)
    → ((rows : ℕ → List BlockView) → AreOldRows (latest_expiry (map shown_op found)) rows old
    → plan.needs.items ≡ map (λ shard. min (needed rows (sources_in shard) shard.steps.items) (2 ^ 64 - 1)) plan.shards.items)
    → IsPlan workers ops (content v) (row_of v.rows) plan
planned v is workers ops found old plan names kinds many ops_are few are shards needs =
    let rs : List Resolved = map shown_op found in
    let g = content v in
    let old_are = old_resolved g.limits.weight ops g.names g.kinds found (row_of v.rows) old ops_are are in
    let zip = shards (row_of v.rows) old_are in
    let as_many : length found ≡ length ops = as_many_shown g.limits.weight found ops g.names g.kinds ops_are in
    let few_rs : length rs ≤ most_operations = omega (arith, few, length-map found shown_op) in
    record {
      names = names;
      kinds = kinds;
      operations = many ∙ as_many;
      few = subst (λ n. n ≤ most_operations) as_many few;
      shards = subst (λ (os : List Resolved). AllZip (IsShardOf workers os (layout_by (row_of v.rows)))
          (range_with_len 0 workers) plan.shards.items) ops_are zip;
      needs = needs (row_of v.rows) old_are ∙ exact_needs v is workers rs plan.shards.items few_rs zip;
    }

-- a plan of equal values
pub plan_same : (workers : ℕ) (v w : VersionView) (ops xs : List NamedOp) (p q : Plan) → v ≡ w → ops ≡ xs → p ≡ q
    → IsPlan workers ops (content v) (row_of v.rows) p → IsPlan workers xs (content w) (row_of w.rows) q
plan_same workers v w ops xs p q same_version same_ops same_plan is =
    subst (λ (x : VersionView). IsPlan workers xs (content x) (row_of x.rows) q) same_version
    (subst (λ ys. IsPlan workers ys (content v) (row_of v.rows) q) same_ops
    (subst (λ r. IsPlan workers ops (content v) (row_of v.rows) r) same_plan is))
