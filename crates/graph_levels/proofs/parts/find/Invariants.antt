use Rattle.std.proofs.Common.{◌≡◌, ◌≤◌, ℕ}
use Rattle.graph_types.specs.{Analyses.Connects, Graph.Graph, declared.ids.Filter.Filter}
use Rattle.graph_levels.specs.Forest.{parent, IsForest, IsSoundForest, Respects}
use Rattle.graph_levels.proofs.parts.find.Given as goal

abbrev pub invariant-loop-parents : goal.invariant-loop-parents
invariant-loop-parents l = record {
  forest : IsForest l.parents;
  low : l.vertex ≤ l.start;
  coarser : (label : ℕ → ℕ) → Respects l.parents label → Respects l.fn.parents label × (label l.start ≡ label l.vertex);
  roots : (v : ℕ) → parent l.fn.parents v ≡ v → parent l.parents v ≡ v;
  sound : (f : Filter) (g : Graph) → IsSoundForest f g l.fn.parents → IsSoundForest f g l.parents × Connects f g l.vertex l.start;
}

abbrev pub decreases-loop-parents : goal.decreases-loop-parents
decreases-loop-parents l = l.vertex
