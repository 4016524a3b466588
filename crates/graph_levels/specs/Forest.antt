-- Trees of vertices: each vertex has a parent that is no greater, and a root is its own parent.
use Rattle.std.specs.Prelude.{ℕ, List, ◌≡◌, ◌≤◌, slice_index_or}
use Rattle.graph_types.specs.{Graph.Graph, Analyses.Connects, declared.ids.Filter.Filter}

-- the parent of v, and v past the end
abbrev pub parent : List ℕ → ℕ → ℕ
parent parents v = slice_index_or parents v v

abbrev pub IsForest : List ℕ → Type 0
IsForest parents = (v : ℕ) → parent parents v ≤ v

-- walks join each vertex to its parent
abbrev pub IsSoundForest : Filter → Graph → List ℕ → Type 0
IsSoundForest f g parents = (v : ℕ) → Connects f g (parent parents v) v

-- a vertex and its parent have one label
abbrev pub Respects : List ℕ → (ℕ → ℕ) → Type 0
Respects parents label = (v : ℕ) → label v ≡ label (parent parents v)
