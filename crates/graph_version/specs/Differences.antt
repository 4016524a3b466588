-- Where rows are the same, by look-up.
use Rattle.std.specs.{Prelude.{◌≡◌, ℕ, ◌==◌, List, false}, List.list_any}
use Rattle.graph_types.specs.declared.ids.VertexId.{VertexId}
use Rattle.edge_block.specs.Slots.{BlockView}
use Rattle.graph_version.specs.Rows.{row_of}

abbrev pub SameRows : List (List BlockView) → List (List BlockView) → Type 0
SameRows some others = (s : ℕ) → row_of some s ≡ row_of others s

-- the rows of all other sources than these are the same
abbrev pub DifferAt : List VertexId → List (List BlockView) → List (List BlockView) → Type 0
DifferAt sources some others = (s : ℕ) → list_any (λ v. s == v.0) sources ≡ false → row_of some s ≡ row_of others s
