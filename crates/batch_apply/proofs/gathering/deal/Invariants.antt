use Rattle.std.{proofs.Common.{◌≡◌, ◌+◌, ℕ, Bool, length, flat_map, count_by, zip, take}, specs.List.{sum_by, AllZip}}
use Rattle.batch_shards.specs.RowBlocks.{shared_numbers}
use Rattle.batch_apply.specs.Gathered.{IsDealt}
use Rattle.batch_apply.proofs.gathering.deal.Given as goal

abbrev pub invariant-loop-shard : goal.invariant-loop-shard
invariant-loop-shard l = record {
  jobs : AllZip IsDealt (zip l.yielded l.needs) l.jobs.items;
  many : length l.jobs.items ≡ length l.yielded;
  left : length l.blocks.items + sum_by (λ n. n) (take (length l.yielded) l.needs) ≡ length l.initial.blocks.items;
  numbers : (q : ℕ → Bool) → count_by q (flat_map (λ j. shared_numbers j.shard.fresh.items) l.jobs.items) + count_by q
      (shared_numbers l.blocks.items) ≡ count_by q (shared_numbers l.initial.blocks.items);
}
