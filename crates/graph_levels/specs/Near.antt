-- How far walks lead that begin at any of several vertices.
use Rattle.std.specs.Prelude.{◌≡◌, ◌⊎◌, ℕ, ◌+◌, ◌≤◌, List, Option, None, Some, Bool, true, nat_lt, slice_index_or}
use Rattle.std.specs.List.{Contains}
use Rattle.graph_types.specs.{Analyses.{Walk, IsTable}, declared.ids.VertexId.VertexId}
use Rattle.graph_levels.specs.Reached.{rows_from}

-- a walk of n steps leads from one of the sources to v
abbrev pub Comes : (ℕ → ℕ → Type 0) → List ℕ → ℕ → ℕ → Type 0
Comes Step sources v n = (s : ℕ) × Contains sources s × Walk Step s v n

-- at most so many, where there is a bound
abbrev pub IsAtMost : Option ℕ → ℕ → Type 0
IsAtMost None n = Unit {0}
IsAtMost (Some most) n = n ≤ most

-- fewer than that
abbrev pub is_below : ℕ → Option ℕ → Bool
is_below n None = true
is_below n (Some most) = nat_lt n most

-- the level of v from the sources: the least length of a walk to it, and none where no walk within the bound leads there
abbrev pub IsLevelFrom : (ℕ → ℕ → Type 0) → List ℕ → Option ℕ → ℕ → Option ℕ → Type 0
IsLevelFrom Step sources most v None = (n : ℕ) → Comes Step sources v n → IsAtMost most n → ⊥
IsLevelFrom Step sources most v (Some n) = Comes Step sources v n × IsAtMost most n × ((m : ℕ) → Comes Step sources v m → n ≤ m)

-- the levels of so many vertices
abbrev pub AreLevelsFrom : ℕ → (ℕ → ℕ → Type 0) → List ℕ → Option ℕ → List (Option ℕ) → Type 0
AreLevelsFrom count Step sources most levels = IsTable count (IsLevelFrom Step sources most) levels

-- the same of a search that isn't at its end: all vertices to which a walk within the bound leads have their levels, and those of
-- others are right where they have one
abbrev pub IsLevelSoFar : (ℕ → ℕ → Type 0) → List ℕ → Option ℕ → ℕ → Option ℕ → Type 0
IsLevelSoFar Step sources bound v None = (n : ℕ) → Comes Step sources v n → IsAtMost bound n → ⊥
IsLevelSoFar Step sources bound v (Some n) = Comes Step sources v n × ((m : ℕ) → Comes Step sources v m → n ≤ m)

abbrev pub AreLevelsSoFar : ℕ → (ℕ → ℕ → Type 0) → List ℕ → Option ℕ → List (Option ℕ) → Type 0
AreLevelsSoFar count Step sources bound levels = IsTable count (IsLevelSoFar Step sources bound) levels

-- a search that was to reach a vertex ended at its bound, or once it reached that vertex: then it has all that are nearer
abbrev pub EndsSearch : Option ℕ → ℕ → List (Option ℕ) → Option ℕ → Type 0
EndsSearch most t levels bound =
    (bound ≡ most) ⊎ ((d : ℕ) × (bound ≡ Some d) × (n : ℕ) × (slice_index_or levels t None ≡ Some n) × (n ≤ d + 1))

-- the levels of a search without a vertex to be reached, and of one with it
abbrev pub AreFoundFor : ℕ → (ℕ → ℕ → Type 0) → List ℕ → Option ℕ → Option ℕ → List (Option ℕ) → Type 0
AreFoundFor count Step sources most None levels = AreLevelsFrom count Step sources most levels
AreFoundFor count Step sources most (Some t) levels =
    (bound : Option ℕ) × AreLevelsSoFar count Step sources bound levels × EndsSearch most t levels bound

-- the vertices that have one, each with it, in number order
abbrev pub AreNear : ℕ → (ℕ → ℕ → Type 0) → List ℕ → Option ℕ → List (VertexId × ℕ) → Type 0
AreNear count Step sources most rows =
    (levels : List (Option ℕ)) × AreLevelsFrom count Step sources most levels × (rows ≡ rows_from 0 levels)
