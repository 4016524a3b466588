-- Shortest walks, by their vertices.
use Rattle.std.specs.Prelude.{◌≡◌, ℕ, ◌+◌, ◌<◌, ◌≤◌, List, [], ◌∷◌, length, slice_index_or, Option, None, Some}
use Rattle.std.specs.List.{Contains}
use Rattle.graph_types.specs.Analyses.{Walk}
use Rattle.graph_levels.specs.Search.{HasLevel}

-- these are the vertices of a walk from a to b, one after another
abbrev pub IsWalkBy : (ℕ → ℕ → Type 0) → ℕ → ℕ → List ℕ → Type 0
IsWalkBy Step a b [] = ⊥
IsWalkBy Step a b (v ∷ []) = (v ≡ a) × (v ≡ b)
IsWalkBy Step a b (v ∷ w ∷ vs) = (v ≡ a) × Step v w × IsWalkBy Step w b (w ∷ vs)

-- A walk from a to b of the least number of steps. Of several it is this one: from its end on, each vertex is the least of those
-- to which a walk leads that is as short, and from which a step leads to the next
pub record IsPath (Step : ℕ → ℕ → Type 0) (a b : ℕ) (path : List ℕ) : Type 0 where
  pub walk : IsWalkBy Step a b path
  pub shortest : (n : ℕ) → Walk Step a b n → length path ≤ n + 1
  pub least : (i u d : ℕ) → i + 1 < length path → Walk Step a u i → Step u (slice_index_or path (i + 1) d) → slice_index_or path i d ≤ u

-- the path, or none where no walk leads there
abbrev pub IsPathIfAny : (ℕ → ℕ → Type 0) → ℕ → ℕ → Option (List ℕ) → Type 0
IsPathIfAny Step a b None = (n : ℕ) → Walk Step a b n → ⊥
IsPathIfAny Step a b (Some path) = IsPath Step a b path

-- steps the other way
abbrev pub turned : (ℕ → ℕ → Type 0) → ℕ → ℕ → Type 0
turned Step a b = Step b a

-- the least of some vertices that have a level, if one has it
abbrev pub IsLeastAt : List (Option ℕ) → ℕ → List ℕ → Option ℕ → Type 0
IsLeastAt levels level vertices None = (u : ℕ) → Contains vertices u → HasLevel levels level u → ⊥
IsLeastAt levels level vertices (Some least) =
    Contains vertices least × HasLevel levels level least × ((u : ℕ) → Contains vertices u → HasLevel levels level u → least ≤ u)
