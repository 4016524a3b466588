use Rattle.std.proofs.Common.{ℕ}
use Rattle.graph_types.specs.{Graph.Graph, declared.ids.Filter.Filter}
use Rattle.graph_levels.{specs.Forest.{IsForest, IsSoundForest, Respects}, proofs.Trees.FlatBelow}
use Rattle.graph_levels.proofs.parts.flatten.Given as goal

abbrev pub invariant-loop-vertex : goal.invariant-loop-vertex
invariant-loop-vertex l = record {
  forest : IsForest l.parents;
  flat : FlatBelow l.parents l.vertex;
  coarser : (label : ℕ → ℕ) → Respects l.parents label → Respects l.fn.parents label;
  sound : (f : Filter) (g : Graph) → IsSoundForest f g l.fn.parents → IsSoundForest f g l.parents;
}
