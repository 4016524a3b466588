use Rattle.std.proofs.Common.{◌≡◌, ◌+◌, ◌-◌, ◌^◌, ◌≤◌, ℕ, List, length, map, min, take, drop}
use Rattle.std.specs.{Prelude.count_by, Prelude.not, Prelude.IfSome, List.sum_by}
use Rattle.edge_block.specs.Batches.{shard_ops}
use Rattle.batch_shards.specs.Groups.{is_expiry}
use Rattle.batch_apply.specs.{Plan.shown_op, Shards.AreShardSteps, Shards.source_numbers, OldRows.own_rows, OldRows.blocks_in}
use Rattle.batch_apply.specs.FirstSources.{AreFirst, AreNext, asked_sources}
use Rattle.batch_apply.proofs.{Listing.listed_blocks, First.is_known}
use Rattle.batch_apply.proofs.shards.shard_for.Given as goal

abbrev pub invariant-loop-k : goal.invariant-loop-k
invariant-loop-k l = record {
  steps : (first : List ℕ) × (AreFirst l.workers l.worker (map shown_op l.ops) l.old first
      × AreShardSteps l.workers (take l.k (map shown_op l.ops)) l.worker
      (is_known l.workers l.worker (map shown_op l.ops) l.old first) (source_numbers l.sources.items) l.steps.items);
  next : IfSome l.places (AreNext (source_numbers l.sources.items)
      (asked_sources (shard_ops l.workers l.worker (drop l.k (map shown_op l.ops)))));
  old_blocks : sum_by (listed_blocks l.old) (source_numbers l.sources.items) ≡ blocks_in (own_rows l.workers l.worker l.old);
  blocks : l.blocks ≡ min (blocks_in (own_rows l.workers l.worker l.old)
      + count_by (λ s. not (is_expiry s.act)) l.steps.items) (2 ^ 64 - 1);
  few : length l.sources.items ≤ length l.old + length l.ops + l.k;
}
