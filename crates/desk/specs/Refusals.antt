-- When the desk refuses a batch.
use Rattle.std.specs.{Prelude.{◌≡◌, ℕ, ◌+◌, ◌<◌, ◌≤◌, if◌then◌else◌, List, length}, List.list_any}
use Rattle.graph_types.specs.{Graph.Graph, Step.is_expire, declared.batches.NamedOp.NamedOp}
use Rattle.graph_version.specs.{Rows.blocks_of, Rows.row_of, Versions.VersionView, Versions.content}
use Rattle.graph_types.specs.{Refusals.{MeetsNeitherLimit, IsLimitRefusal}, declared.refusals.ApplyError.ApplyError}
use Rattle.graph_types.specs.declared.refusals.ApplyError.TheVariants.{BatchLimit, NamesFull, KindsFull, PoolEmpty, OutOfMemory}
use Rattle.batch_apply.specs.{Planned.{IsPlan, IsSharedPlan}, declared.plans.Plan.Plan}

-- how many blocks a batch asks for behind a version with so many blocks: one for each operation, and where an operation expires
-- edges, as many more as the version has. They must be free, though fewer may be granted, and fewer taken
abbrev pub asked : List NamedOp → ℕ → ℕ
asked ops blocks = length ops + (if list_any is_expire ops then blocks else 0)

-- how many blocks a version lists
abbrev pub block_count : VersionView → ℕ
block_count v = length (blocks_of v.rows)

-- what a batch's refusal depends on: its operations, how many batches were accepted before it, the graph that these left, and how
-- many blocks that has and how many are free
pub record Attempt : Type 0 where
  pub ops : List NamedOp
  pub batches : ℕ
  pub graph : Graph
  pub used : ℕ
  pub free : ℕ

-- When a batch is refused, for the first of these that holds: behind so many batches; where it would leave more names or more
-- kinds than the limits; where it asks for more blocks than are free. Memory may run out at any place.
abbrev pub BatchRefusal : Attempt → ApplyError → Type 0
BatchRefusal a BatchLimit = a.graph.limits.batches ≤ a.batches
BatchRefusal a NamesFull = (a.batches < a.graph.limits.batches) × IsLimitRefusal NamesFull a.ops a.graph
BatchRefusal a KindsFull = (a.batches < a.graph.limits.batches) × IsLimitRefusal KindsFull a.ops a.graph
BatchRefusal a (PoolEmpty needed left) =
    (a.batches < a.graph.limits.batches) × MeetsNeitherLimit a.ops a.graph × (needed ≡ asked a.ops a.used) × (left ≡ a.free)
    × (a.free < asked a.ops a.used)
BatchRefusal a OutOfMemory = Unit {0}

-- no refusal holds, except that memory may run out
pub record IsAdmissible (a : Attempt) : Type 0 where
  pub few : a.batches < a.graph.limits.batches
  pub limits : MeetsNeitherLimit a.ops a.graph
  pub blocks : asked a.ops a.used ≤ a.free

-- a batch after this version, with so many blocks free
abbrev pub attempt_on : VersionView → ℕ → List NamedOp → Attempt
attempt_on v free ops =
    record { ops = ops; batches = length v.batches; graph = content v; used = block_count v; free = free }

abbrev pub Refuses : VersionView → ℕ → List NamedOp → ApplyError → Type 0
Refuses v free ops error = BatchRefusal (attempt_on v free ops) error

abbrev pub IsWithin : VersionView → ℕ → List NamedOp → Type 0
IsWithin v free ops = IsAdmissible (attempt_on v free ops)

-- a batch that the version's limits admit, and its plan for so many workers
pub record IsPlanned (v : VersionView) (workers : ℕ) (ops : List NamedOp) (plan : Plan) : Type 0 where
  pub few : length v.batches < (content v).limits.batches
  pub limits : MeetsNeitherLimit ops (content v)
  pub some : 0 < workers
  pub planned : IsPlan workers ops (content v) (row_of v.rows) plan

-- a batch that the version's limits admit, and its plan for as many of these workers as share it
pub record IsAdmitted (v : VersionView) (workers : ℕ) (ops : List NamedOp) (plan : Plan) : Type 0 where
  pub few : length v.batches < (content v).limits.batches
  pub limits : MeetsNeitherLimit ops (content v)
  pub shared : IsSharedPlan workers ops (content v) (row_of v.rows) plan

-- why none were granted of so many blocks that were asked for, where so many are free
abbrev pub RefusesGrant : ℕ → ℕ → ApplyError → Type 0
RefusesGrant needed free (PoolEmpty told left) = (told ≡ needed) × (left ≡ free) × (free < needed)
RefusesGrant needed free OutOfMemory = Unit {0}
RefusesGrant needed free _ = ⊥
