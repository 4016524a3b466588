-- The operations of a batch by worker.
use Rattle.std.specs.Prelude.{◌≡◌, ◌≢◌, ℕ, ◌<◌, ◌%◌, List, [], ◌∷◌, ◌++◌, map, filter, length, if◌then◌else◌, nat_eq, All}
use Rattle.std.specs.{Prelude.{AllPairs, Bool, true}, List.{enumerate_from, list_any, range_with_len, AllZip}}
use Rattle.std.specs.declared.option.Option.{Option, TheVariants.{None, Some}}
use Rattle.graph_types.specs.{Graph.{Key, Graph}, declared.{ids.VertexId.VertexId, batches.NamedOp.NamedOp}}
use Rattle.edge_block.specs.{Slots.has_before, Rows.Shape, Batches.{Resolved, AtKey, InAll, is_in_shard, shard_ops, resolved}}
use Rattle.batch_shards.specs.{Shards.{AreSteps, resolved_in}, Done.sources_in, Spending.latest_by, declared.shard.Shard.Shard}
use Rattle.batch_shards.specs.declared.shard.Step.{Step}

-- an operation without its source's number, on which neither rows nor outcomes depend
abbrev pub unsourced : Resolved → Resolved
unsourced (AtKey source key change) = AtKey None key change
unsourced (InAll time) = InAll time

-- what each does
abbrev pub acts : List Resolved → List Resolved
acts rs = map unsourced rs

abbrev pub IsSourceBelow : ℕ → Resolved → Type 0
IsSourceBelow n (AtKey source key change) = (k : Key) → key ≡ Some k → k.source < n
IsSourceBelow n (InAll time) = Unit {0}

-- the numbers of sources
abbrev pub source_numbers : List VertexId → List ℕ
source_numbers sources = map (λ s. s.0) sources

-- the sources in order of first appearance, with one that may be among them
abbrev pub with_number : ℕ → List ℕ → List ℕ
with_number source sources = if list_any (nat_eq source) sources then sources else sources ++ source ∷ []

-- the sources with that of a key
abbrev pub with_source : Option Key → List ℕ → List ℕ
with_source None sources = sources
with_source (Some k) sources = with_number k.source sources

-- the sources with that of an operation
abbrev pub with_op : Resolved → List ℕ → List ℕ
with_op (AtKey source key change) sources = with_source key sources
with_op (InAll time) sources = sources

-- the time of an expiry, 0 of another operation
abbrev pub resolved_time : Resolved → ℕ
resolved_time (AtKey source key change) = 0
resolved_time (InAll time) = time

-- the greatest time of the batch's expiries, 0 where it has none: no edge is from before that
abbrev pub latest_expiry : List Resolved → ℕ
latest_expiry rs = latest_by resolved_time rs

-- whether a row has an edge that was last touched before a time
abbrev pub has_old_shape : ℕ → List Shape → Bool
has_old_shape time row = list_any (λ b. has_before time b.slots) row

-- A worker's operations among those of a batch, in order, each with its place in the batch and that of its source. Among the
-- sources are all of the worker's whose rows are old.
pub record AreShardSteps (workers : ℕ) (rs : List Resolved) (w : ℕ) (is_old : ℕ → Bool) (sources : List ℕ) (steps : List Step)
    : Type 0 where
  pub places : map (λ s. s.op) steps ≡ map (λ p. p.0) (filter (λ p. is_in_shard workers w p.1) (enumerate_from 0 rs))
  pub acts_are : acts (resolved_in sources steps) ≡ acts (shard_ops workers w rs)
  pub in_range : AreSteps (length sources) steps
  pub distinct : AllPairs (λ a b. a ≢ b) sources
  pub own : All (λ s. s % workers ≡ w) sources
  pub within : (n : ℕ) → All (IsSourceBelow n) rs → ((s : ℕ) → is_old s ≡ true → s < n) → All (λ s. s < n) sources
  pub old_rows : (s : ℕ) → s % workers ≡ w → is_old s ≡ true → list_any (nat_eq s) sources ≡ true

-- the shard of a worker over a version of this layout: it opens each row of its own from which an expiry may take an edge
abbrev pub IsShardOf : ℕ → List Resolved → (ℕ → List Shape) → ℕ → Shard → Type 0
IsShardOf workers rs layout w shard =
    AreShardSteps workers rs w (λ s. has_old_shape (latest_expiry rs) (layout s)) (sources_in shard) shard.steps.items

-- one shard for each worker, in order, each with the batch's operations on the worker's sources, over a version's layout
abbrev pub ArePlanned : ℕ → List NamedOp → Graph → (ℕ → List Shape) → List Shard → Type 0
ArePlanned workers ops g layout shards =
    AllZip (IsShardOf workers (resolved ops g) layout) (range_with_len 0 workers) shards
