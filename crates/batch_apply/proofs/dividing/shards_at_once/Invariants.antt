use Rattle.std.{proofs.Common.{◌≡◌, ◌-◌, ◌^◌, ℕ, List, map, min, length}, specs.List.{range_with_len, AllZip}}
use Rattle.edge_block.specs.Slots.{BlockView}
use Rattle.batch_shards.specs.{Done.layout_by, Done.sources_in, Spending.needed}
use Rattle.batch_apply.specs.{Plan.shown_op, Shards.IsShardOf, Shards.latest_expiry, OldRows.AreOldRows}
use Rattle.batch_apply.proofs.dividing.shards_at_once.Given as goal

abbrev pub invariant-loop-one : goal.invariant-loop-one
invariant-loop-one g l = (rows : ℕ → List BlockView) → AreOldRows (latest_expiry (map shown_op l.ops)) rows l.old
    → AllZip (IsShardOf l.fn.workers (map shown_op l.ops) (layout_by rows)) (range_with_len 0 (length l.yielded)) l.all.shards.items
    × (l.all.needs.items ≡ map (λ shard. min (needed rows (sources_in shard) shard.steps.items) (2 ^ 64 - 1)) l.all.shards.items)
