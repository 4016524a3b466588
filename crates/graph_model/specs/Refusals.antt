-- When a batch is refused, and which answers take memory.
use Rattle.std.specs.Prelude.{◌≡◌, ◌≢◌, ◌⊎◌, ◌<◌, ℕ, List, length, Bool, true, false}
use Rattle.graph_types.specs.{Graph.Graph, Step.MeetsNameLimit, Refusals.IsLimitRefusal}
use Rattle.graph_types.specs.declared.{batches.NamedOp.NamedOp, requests.Request.{Request, TheVariants.OneEdge}}
use Rattle.graph_types.specs.declared.refusals.ApplyError.{ApplyError, TheVariants.{NamesFull, KindsFull, OutOfMemory}}

-- a batch that meets both limits is refused for the names
abbrev pub TellsNamesFirst : Type 0
TellsNamesFirst =
    (error : ApplyError) (ops : List NamedOp) (g : Graph) → MeetsNameLimit ops g → IsLimitRefusal error ops g → error ≢ KindsFull

-- a graph past the limit of its own that an error speaks of; out of memory may come at any time
abbrev pub Exceeds : ApplyError → Graph → Type 0
Exceeds NamesFull g = g.limits.names < length g.names
Exceeds KindsFull g = g.limits.kinds < length g.kinds
Exceeds OutOfMemory g = Unit {0}
Exceeds _ g = ⊥

-- a growth that was refused, or more names than the limit
abbrev pub IsNamesRefusal : ℕ → ApplyError → List (List ℕ) → Type 0
IsNamesRefusal limit error names = (error ≡ OutOfMemory) ⊎ ((error ≡ NamesFull) × (limit < length names))

abbrev pub IsKindsRefusal : ℕ → ApplyError → List (List ℕ) → Type 0
IsKindsRefusal limit error kinds = (error ≡ OutOfMemory) ⊎ ((error ≡ KindsFull) × (limit < length kinds))

abbrev pub needs_memory : Request → Bool
needs_memory (OneEdge kind source target) = false
needs_memory _ = true
