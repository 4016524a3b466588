-- The plan of a batch: what it leaves of the names, and its operations by worker.
use Rattle.std.specs.{Prelude.{◌≡◌, ℕ, ◌+◌, ◌<◌, ◌≤◌, List, length, map, nat_lt, if◌then◌else◌}, List.{range_with_len, AllZip}}
use Rattle.graph_types.specs.{Graph.Graph, Limits.most_operations, Step.after_all, declared.batches.NamedOp.NamedOp}
use Rattle.edge_block.specs.{Slots.BlockView, Batches.resolved}
use Rattle.batch_shards.specs.{Done.{layout_by, sources_in}, Spending.needed}
use Rattle.graph_version.specs.Kept.{vertex_book, kind_book}
use Rattle.batch_apply.specs.{Shards.IsShardOf, OldRows.{AreOldRows, expiry_time}, declared.{old.OldRow.OldRow, plans.Plan.Plan}}

-- the books have the names that the batch leaves of the graph, the shards over its rows are those of workers 0, 1, .. in order,
-- and each may take as many fresh blocks as it has operations on edges, and blocks with an edge that an expiry may take
pub record IsPlan (workers : ℕ) (ops : List NamedOp) (g : Graph) (rows : ℕ → List BlockView) (plan : Plan) : Type 0 where
  pub names : plan.names ≡ vertex_book (after_all ops g)
  pub kinds : plan.kinds ≡ kind_book (after_all ops g)
  pub operations : plan.operations ≡ length ops
  pub few : length ops ≤ most_operations
  pub shards : AllZip (IsShardOf workers (resolved ops g) (layout_by rows)) (range_with_len 0 workers)
      plan.shards.items
  pub needs : plan.needs.items ≡ map (λ shard. needed rows (sources_in shard) shard.steps.items) plan.shards.items

-- how many of these workers a batch is shared by: one with fewer than 2,048 operations, and rows from which its expiries may
-- take edges, is one worker's
abbrev pub workers_for : ℕ → ℕ → ℕ
workers_for workers many = if nat_lt many 2048 then 1 else workers

-- a plan for as many of these workers as share the batch
pub record IsSharedPlan (workers : ℕ) (ops : List NamedOp) (g : Graph) (rows : ℕ → List BlockView) (plan : Plan) : Type 0 where
  pub old : List OldRow
  pub old_are : AreOldRows (expiry_time ops) rows old
  pub some : 0 < workers_for workers (length ops + length old)
  pub planned : IsPlan (workers_for workers (length ops + length old)) ops g rows plan
