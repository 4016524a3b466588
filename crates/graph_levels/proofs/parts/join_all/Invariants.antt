use Rattle.std.proofs.Common.{ℕ, ◌≡◌, take, All}
use Rattle.graph_types.specs.{Graph.Graph, Analyses.Joins, declared.ids.Filter.Filter}
use Rattle.graph_levels.specs.Forest.{IsForest, IsSoundForest, Respects}
use Rattle.graph_levels.proofs.parts.join_all.Given as goal

abbrev pub invariant-loop-target : goal.invariant-loop-target
invariant-loop-target l = record {
  forest : IsForest l.parents;
  coarser : (label : ℕ → ℕ) → Respects l.parents label
      → Respects l.fn.parents label × All (λ v. label l.vertex ≡ label v) (take l.target-index l.targets);
  sound : (f : Filter) (g : Graph) → IsSoundForest f g l.fn.parents → All (λ v. Joins f g l.vertex v) l.targets → IsSoundForest f g l.parents;
}
