use Rattle.std.{proofs.Common.{◌≡◌, ◌-◌, ◌^◌, ℕ, List, map, min}, specs.List.{range_with_len, AllZip}}
use Rattle.edge_block.specs.Slots.{BlockView}
use Rattle.batch_shards.specs.{Done.layout_by, Done.sources_in, Spending.needed}
use Rattle.batch_apply.specs.{Plan.shown_op, Shards.IsShardOf, Shards.latest_expiry, OldRows.AreOldRows}
use Rattle.batch_apply.proofs.dividing.shards_for.Given as goal

abbrev pub invariant-loop-worker : goal.invariant-loop-worker
invariant-loop-worker l = (rows : ℕ → List BlockView) → AreOldRows (latest_expiry (map shown_op l.ops)) rows l.old
    → AllZip (IsShardOf l.workers (map shown_op l.ops) (layout_by rows)) (range_with_len 0 l.worker) l.all.shards.items
    × (l.all.needs.items ≡ map (λ shard. min (needed rows (sources_in shard) shard.steps.items) (2 ^ 64 - 1)) l.all.shards.items)
