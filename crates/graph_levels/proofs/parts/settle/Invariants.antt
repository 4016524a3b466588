use Rattle.std.proofs.Common.{ℕ, ◌≡◌, ◌<◌, length}
use Rattle.graph_types.specs.Analyses.{LeadsTo}
use Rattle.graph_levels.specs.Forest.{IsForest, IsSoundForest, Respects}
use Rattle.graph_levels.proofs.parts.settle.Given as goal

abbrev pub invariant-loop-vertex : goal.invariant-loop-vertex
invariant-loop-vertex g l =
    let f = g.R.ViewEdges.filter l.edges in
    let gr = g.R.ViewEdges.graph l.edges in
    record {
      long : length l.parents ≡ length gr.names;
      forest : IsForest l.parents;
      sound : IsSoundForest f gr l.fn.parents → IsSoundForest f gr l.parents;
      agree : (label : ℕ → ℕ) → Respects l.parents label → (a b : ℕ) → a < l.vertex → LeadsTo f gr a b → label a ≡ label b;
    }
