-- Shards that have got the fresh blocks which they may take.
use Rattle.std.proofs.Common.{◌≡◌, ℕ, zero, suc, ◌+◌, List, [], ◌∷◌, ◌++◌, map, flat_map, zip, refl}
use Rattle.std.proofs.{Common.{ap, arith, All}, lemmas.List.{length-map, Elements.{All-nil, All-cons}}}
use Rattle.std.{specs.List.{range_with_len, AllZip}, proofs.lemmas.Grind.common_steps}
use Rattle.edge_block.specs.{Slots.BlockView, Rows.Shape, Batches.Resolved}
use Rattle.batch_shards.specs.{RowBlocks.shared_numbers, Done.IsShardDone, declared.shard.Shard.Shard}
use Rattle.batch_shards.specs.declared.shard.ShardDone.{ShardDone}
use Rattle.batch_shards.proofs.ShardSizes.{needs_of}
use Rattle.batch_apply.specs.{Shards.IsShardOf, Gathered.{IsDealt, IsShard, AreShardsDone}, declared.workers.Job.Job}

-- The shards of jobs

abbrev pub shards_in : List Job → List Shard
shards_in jobs = map (λ j. j.shard) jobs

module _ (workers : ℕ) (rs : List Resolved) (layout : ℕ → List Shape) where
  dealt_one : (w : ℕ) (p : Shard × ℕ) (j : Job) → IsDealt p j → IsShardOf workers rs layout w p.0
      → IsShardOf workers rs layout w j.shard
  dealt_one w p j d is = grind (arith, common_steps)

  dealt_each : (f : Shard → ℕ) (a k : ℕ) (shards : List Shard) (jobs : List Job)
      → AllZip (IsShardOf workers rs layout) (range_with_len a k) shards → AllZip IsDealt (zip shards (map f shards)) jobs
      → AllZip (IsShardOf workers rs layout) (range_with_len a k) (shards_in jobs)
  dealt_each f a zero [] [] z d = tt
  dealt_each f a zero [] (j ∷ jobs) z d = absurd d
  dealt_each f a zero (s ∷ shards) jobs z d = absurd z
  dealt_each f a (suc k) [] jobs z d = absurd z
  dealt_each f a (suc k) (s ∷ shards) [] z d = absurd d
  dealt_each f a (suc k) (s ∷ shards) (j ∷ jobs) z d =
      (dealt_one a (s, f s) j d.0 z.0, dealt_each f (a + 1) k shards jobs z.1 d.1)

  pub dealt_planned : (rows : ℕ → List BlockView) (a k : ℕ) (shards : List Shard) (needs : List ℕ) (jobs : List Job)
      → needs ≡ map (needs_of rows) shards → AllZip (IsShardOf workers rs layout) (range_with_len a k) shards
      → AllZip IsDealt (zip shards needs) jobs → AllZip (IsShardOf workers rs layout) (range_with_len a k) (shards_in jobs)
  dealt_planned rows a k shards needs jobs e z d = grind (arith, common_steps, dealt_each)

  module _ (rows : ℕ → List BlockView) where
    ready_one : (w : ℕ) (s : Shard) (j : Job) → IsDealt (s, needs_of rows s) j → IsShardOf workers rs layout w s
        → IsShard rows j.shard
    ready_one w s j d is = grind (arith, common_steps, dealt_one, length-map)

    ready_each : (a k : ℕ) (shards : List Shard) (jobs : List Job)
        → AllZip (IsShardOf workers rs layout) (range_with_len a k) shards
        → AllZip IsDealt (zip shards (map (needs_of rows) shards)) jobs → All (λ j. IsShard rows j.shard) jobs
    ready_each a zero [] [] z d = All-nil (λ (j : Job). IsShard rows j.shard)
    ready_each a zero [] (j ∷ jobs) z d = absurd d
    ready_each a zero (s ∷ shards) jobs z d = absurd z
    ready_each a (suc k) [] jobs z d = absurd z
    ready_each a (suc k) (s ∷ shards) [] z d = absurd d
    ready_each a (suc k) (s ∷ shards) (j ∷ jobs) z d =
        All-cons (λ (j : Job). IsShard rows j.shard) j jobs (ready_one a s j d.0 z.0) (ready_each (a + 1) k shards jobs z.1 d.1)

    pub dealt_ready : (a k : ℕ) (shards : List Shard) (needs : List ℕ) (jobs : List Job) → needs ≡ map (needs_of rows) shards
        → AllZip (IsShardOf workers rs layout) (range_with_len a k) shards → AllZip IsDealt (zip shards needs) jobs
        → All (λ j. IsShard rows j.shard) jobs
    dealt_ready a k shards needs jobs e z d = grind (arith, common_steps, ready_each)

pub done_in : (rows : ℕ → List BlockView) (jobs : List Job) (dones : List ShardDone) → AreShardsDone rows jobs dones
    → AllZip (IsShardDone rows) (shards_in jobs) dones
done_in rows [] [] z = tt
done_in rows [] (d ∷ dones) z = absurd z
done_in rows (j ∷ jobs) [] z = absurd z
done_in rows (j ∷ jobs) (d ∷ dones) z = (z.0, done_in rows jobs dones z.1)

pub fresh_in : (jobs : List Job) → flat_map (λ (j : Job). shared_numbers j.shard.fresh.items) jobs
    ≡ flat_map (λ (s : Shard). shared_numbers s.fresh.items) (shards_in jobs)
fresh_in [] = refl
fresh_in (j ∷ jobs) = ap (λ rest. shared_numbers j.shard.fresh.items ++ rest) (fresh_in jobs)
