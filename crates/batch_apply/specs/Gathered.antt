-- What shards leave together.
use Rattle.std.specs.Prelude.{◌≡◌, ℕ, ◌+◌, List, ◌++◌, flat_map, replicate, count_by, Bool, ◌≢◌, ◌≤◌, map, length, AllPairs}
use Rattle.std.specs.{Prelude.{◌<◌, All, false, zip}, List.AllZip}
use Rattle.graph_types.specs.{Limits.most_operations, declared.batches.NamedOp.NamedOp}
use Rattle.graph_version.specs.{Rows.{row_of, blocks_of, numbers_of}, Versions.{VersionView, content, is_in}}
use Rattle.vertex_names.specs.Book.{Book}
use Rattle.batch_apply.specs.{Planned.IsPlan, declared.plans.Plan.Plan}
use Rattle.graph_types.specs.declared.batches.Outcome.TheVariants.{Absent}
use Rattle.edge_block.specs.Slots.{BlockView}
use Rattle.batch_shards.specs.RowBlocks as shared
use Rattle.batch_shards.specs.{Closing.row_values, declared.shard.{Shard.Shard, ShardDone.ShardDone}, Shards.AreSteps}
use Rattle.batch_shards.specs.{Done.{IsShardDone, sources_in}, Spending.needed}
use Rattle.batch_apply.specs.{Applied.written_from, declared.{gathering.Gathered.Gathered, workers.Job.Job}}

-- a shard that can be worked on over these rows: its sources are distinct, and it has as many fresh blocks as it may take
pub record IsShard (rows : ℕ → List BlockView) (shard : Shard) : Type 0 where
  pub fresh : needed rows (sources_in shard) shard.steps.items ≤ length shard.fresh.items
  pub steps : AreSteps (length shard.sources.items) shard.steps.items
  pub distinct : AllPairs (λ a b. a ≢ b) (map (λ s. s.0) shard.sources.items)

-- what the work on each job's shard must leave of these rows, in the order of the jobs
abbrev pub AreShardsDone : (ℕ → List BlockView) → List Job → List ShardDone → Type 0
AreShardsDone rows jobs done = AllZip (λ j d. IsShardDone rows j.shard d) jobs done

-- the job of a shard, once the shard has so many fresh blocks
pub record IsDealt (planned : Shard × ℕ) (job : Job) : Type 0 where
  pub sources_are : job.shard.sources.items ≡ planned.0.sources.items
  pub steps_are : job.shard.steps.items ≡ planned.0.steps.items
  pub fresh : length job.shard.fresh.items ≡ planned.1

-- what jobs of these shards, each with how many blocks it may take, leave of these rows: they were dealt blocks of these numbers,
-- each was worked on, and what each left was put together
pub record IsGathered (rows : ℕ → List BlockView) (planned : List (Shard × ℕ)) (numbers : List ℕ) (operations : ℕ)
    (all : Gathered) : Type 0 where
  pub jobs : List Job
  pub dones : List ShardDone
  pub rest : List ℕ
  pub dealt : AllZip IsDealt planned jobs
  pub shared_out : (q : ℕ → Bool) → count_by q (flat_map (λ j. shared.shared_numbers j.shard.fresh.items) jobs) + count_by q rest
      ≡ count_by q numbers
  pub done : AreShardsDone rows jobs dones
  pub outcomes_are : all.outcomes.items ≡ written_from dones (replicate operations Absent)
  pub rows_are : row_values all.rows.items ≡ flat_map (λ d. row_values d.rows.items) dones
  pub taken_are : all.left.taken.items ≡ flat_map (λ d. d.left.taken.items) dones
  pub dropped_are : shared.shared_blocks all.left.dropped.items ≡ flat_map (λ d. shared.shared_blocks d.left.dropped.items) dones
  pub unused_are : shared.shared_numbers all.left.unused.items ≡ rest ++ flat_map (λ d. shared.shared_numbers d.left.unused.items) dones

-- the shards of a plan were worked on with fresh blocks of these numbers, none of which the version has, and what they left was
-- put together; the plan has these names and kinds
pub record IsWorked (v : VersionView) (ops : List NamedOp) (names kinds : Book) (numbers : List ℕ) (all : Gathered) : Type 0 where
  pub workers : ℕ
  pub some : 0 < workers
  pub plan : Plan
  pub planned : IsPlan workers ops (content v) (row_of v.rows) plan
  pub names_are : plan.names ≡ names
  pub kinds_are : plan.kinds ≡ kinds
  pub few : length v.batches < (content v).limits.batches
  pub short : length ops ≤ most_operations
  pub gathered : IsGathered (row_of v.rows) (zip plan.shards.items plan.needs.items) numbers (length ops) all
  pub distinct : AllPairs ◌≢◌ numbers
  pub unlisted : All (λ n. is_in n (numbers_of (blocks_of v.rows)) ≡ false) numbers
