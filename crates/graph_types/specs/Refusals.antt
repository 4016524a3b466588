-- When a batch is refused for what it would leave of a graph.
use Rattle.std.specs.Prelude.{List}
use Rattle.graph_types.specs.{Graph.Graph, Step.{MeetsNameLimit, MeetsKindLimit}, declared.batches.NamedOp.NamedOp}
use Rattle.graph_types.specs.declared.refusals.ApplyError.{ApplyError, TheVariants.{NamesFull, KindsFull, OutOfMemory}}

-- a batch that leaves no more names and no more kinds than the limits
abbrev pub MeetsNeitherLimit : List NamedOp → Graph → Type 0
MeetsNeitherLimit ops g = (MeetsNameLimit ops g → ⊥) × (MeetsKindLimit ops g → ⊥)

-- a refusal for the names first, and then for the kinds; out of memory may come at any time
abbrev pub IsLimitRefusal : ApplyError → List NamedOp → Graph → Type 0
IsLimitRefusal NamesFull ops g = MeetsNameLimit ops g
IsLimitRefusal KindsFull ops g = MeetsKindLimit ops g × (MeetsNameLimit ops g → ⊥)
IsLimitRefusal OutOfMemory ops g = Unit {0}
IsLimitRefusal _ ops g = ⊥
