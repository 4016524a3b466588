-- What is made of a batch.
use Rattle.std.specs.{Prelude.{◌≡◌, ℕ, List, Bool, true, slice_get}, Arc.arc_value}
use Rattle.std.specs.List.{list_all}
use Rattle.graph_types.specs.{Step.outcomes, declared.batches.{Batch.Batch, NamedOp.NamedOp}}
use Rattle.batch_shards.specs.RowBlocks.{shared_blocks, shared_numbers}
use Rattle.graph_version.specs.{declared.versions.Version.Version, Versions.{VersionView, content}}
use Rattle.store_steps.specs.Acceptances.{Application, IsAppliedTo}
use Rattle.desk.specs.declared.applying.Prepared.{Prepared}
use Rattle.graph_version.specs.Differences.{DifferAt}
use Rattle.epoch_core.specs.Blocks.{all_differ}
use Rattle.block_reclamation.specs.{declared.status.BlockStatus.BlockStatus, Status.is_in_use, Status.is_used, Status.is_at}

-- what was made, as an application of these operations with granted blocks of these numbers
abbrev pub application_of : List NamedOp → List ℕ → Prepared → Application
application_of ops numbers p = record {
  batch = ops;
  granted = numbers;
  version = arc_value {X = Version} p.version;
  taken = p.taken.items;
  dropped = shared_blocks p.dropped.items;
  unused = shared_numbers p.unused.items;
}

-- the operations were applied to this version, and what else their acceptance needs was made
pub record IsPrepared (v : VersionView) (ops : List NamedOp) (numbers : List ℕ) (p : Prepared) : Type 0 where
  pub applied : IsAppliedTo v (application_of ops numbers p)
  pub outcomes_are : p.outcomes.items ≡ outcomes ops (content v)
  pub batch_is : arc_value {X = Batch} p.batch ≡ ops
  pub dropped_are : p.dropped_numbers.items ≡ shared_numbers p.dropped.items
  pub rows_are : DifferAt p.sources.items v.rows (arc_value {X = Version} p.version).rows

-- each of the numbers has a status that passes, and none stands twice
pub record AreOnce (test : BlockStatus → Bool) (numbers : List ℕ) (pool : List BlockStatus) : Type 0 where
  pub pass : list_all (λ n. is_at test (slice_get pool n)) numbers ≡ true
  pub apart : all_differ numbers ≡ true

abbrev pub AreInUseOnce : List ℕ → List BlockStatus → Type 0
AreInUseOnce numbers pool = AreOnce is_in_use numbers pool

abbrev pub AreUsedOnce : List ℕ → List BlockStatus → Type 0
AreUsedOnce numbers pool = AreOnce is_used numbers pool
