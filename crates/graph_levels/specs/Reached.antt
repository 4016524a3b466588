-- Rows of the vertices that were reached, each with its level, and marks of vertices.
use Rattle.std.specs.Prelude.{◌≡◌, ℕ, ◌+◌, ◌<◌, nat_eq, List, [], ◌∷◌, ◌++◌, All, Bool, false, cond, Option, Some, None, fold, map}
use Rattle.std.specs.{Prelude.{replicate, slice_set}, List.{IsDistinct, list_any}}
use Rattle.std.specs.{Prelude.{◌↔◌, ◌/◌, ◌%◌, slice_index_or, IsTrue}, Int.bit_at}
use Rattle.graph_types.specs.{Graph.Graph, Analyses.AreLevels, declared.ids.{Filter.Filter, VertexId.VertexId}}
use Rattle.graph_levels.specs.declared.found.Levels.{Levels, TheVariants.{Each, Reached}}

abbrev pub vertex_numbers : List VertexId → List ℕ
vertex_numbers vertices = map (λ vertex. vertex.0) vertices

abbrev pub vertices_of : List (VertexId × ℕ) → List ℕ
vertices_of rows = map (λ row. row.0.0) rows

-- whether a vertex stands in a row
abbrev pub stands_in : ℕ → List (VertexId × ℕ) → Bool
stands_in v rows = list_any (nat_eq v) (vertices_of rows)

-- whether there is a vertex to be reached, and it stands in a row
abbrev pub is_found : List (VertexId × ℕ) → Option ℕ → Bool
is_found rows None = false
is_found rows (Some t) = stands_in t rows

-- the rows with one more, at the end, for each of these vertices that stood in none, with this level
abbrev pub met : ℕ → List ℕ → List (VertexId × ℕ) → List (VertexId × ℕ)
met level [] rows = rows
met level (v ∷ vs) rows = met level vs (cond (stands_in v rows) rows (rows ++ (record { 0 = v }, level) ∷ []))

-- the table of so many vertices in which those of the rows have their levels, and no other has one
abbrev pub level_table : ℕ → List (VertexId × ℕ) → List (Option ℕ)
level_table count rows = fold (λ levels row. slice_set levels row.0.0 (Some row.1)) (replicate count None) rows

-- each row is of a vertex of its own below the count
pub record AreRows (count : ℕ) (rows : List (VertexId × ℕ)) : Type 0 where
  pub distinct : IsDistinct nat_eq (vertices_of rows)
  pub within : All (λ v. v < count) (vertices_of rows)

-- the vertices of a table that have a level, with it, in number order; the table begins with vertex v
abbrev pub rows_from : ℕ → List (Option ℕ) → List (VertexId × ℕ)
rows_from v [] = []
rows_from v (None ∷ levels) = rows_from (v + 1) levels
rows_from v (Some level ∷ levels) = (record { 0 = v }, level) ∷ rows_from (v + 1) levels

-- the vertices that a walk reaches from the source, with their levels, in number order
abbrev pub AreReached : Filter → Graph → ℕ → List (VertexId × ℕ) → Type 0
AreReached f g source rows = (levels : List (Option ℕ)) × AreLevels f g source levels × (rows ≡ rows_from 0 levels)

-- the level of each vertex, or those of the vertices that are reached
abbrev pub TellLevels : Filter → Graph → ℕ → Levels → Type 0
TellLevels f g source (Each levels) = AreLevels f g source levels
TellLevels f g source (Reached rows) = AreReached f g source rows

-- marks of vertices, one bit each, 64 in a word
abbrev pub IsMarked : List ℕ → ℕ → Type 0
IsMarked marks v = bit_at (slice_index_or marks (v / 64) 0) (v % 64) ≡ 1

-- the vertices that stand in these rows are marked, and no other
abbrev pub AreVertexMarks : List ℕ → List (VertexId × ℕ) → Type 0
AreVertexMarks marks rows = (v : ℕ) → (IsMarked marks v ↔ IsTrue (stands_in v rows))
