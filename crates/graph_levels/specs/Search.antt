-- A search by frontiers, as it goes on.
use Rattle.std.specs.Prelude.{◌≡◌, ℕ, ◌+◌, ◌≤◌, List, slice_index_or, Option, Some, None, All, ◌⊎◌, Bool, true, false}
use Rattle.std.specs.List.{Contains}
use Rattle.graph_levels.specs.Near.{Comes}

abbrev pub is_unreached : Option ℕ → Bool
is_unreached None = true
is_unreached (Some n) = false

abbrev pub level_of : List (Option ℕ) → ℕ → Option ℕ
level_of levels v = slice_index_or levels v None

abbrev pub HasLevel : List (Option ℕ) → ℕ → ℕ → Type 0
HasLevel levels d v = level_of levels v ≡ Some d

abbrev pub IsReachedWithin : List (Option ℕ) → ℕ → ℕ → Type 0
IsReachedWithin levels k v = (j : ℕ) × (level_of levels v ≡ Some j) × (j ≤ k)

-- Between two frontiers: the sources have level 0; each level is that of a walk and at most depth + 1; those of rest have depth,
-- those of next depth + 1; a step from a vertex that is in neither leads to a level that is at most one more.
pub record IsSearch (Step : ℕ → ℕ → Type 0) (sources : List ℕ) (levels : List (Option ℕ)) (rest next : List ℕ)
    (depth : ℕ) : Type 0 where
  pub start : All (HasLevel levels 0) sources
  pub sound : (v k : ℕ) → HasLevel levels k v → Comes Step sources v k
  pub low : (v k : ℕ) → HasLevel levels k v → k ≤ depth + 1
  pub now : All (HasLevel levels depth) rest
  pub later : All (HasLevel levels (depth + 1)) next
  pub closed : (u v k : ℕ) → HasLevel levels k u → Step u v
      → IsReachedWithin levels (k + 1) v ⊎ (Contains rest u ⊎ Contains next u)

-- one that was cut off: some of the frontier may be left, and some of the next one may be missing
abbrev pub IsCutSearch : (ℕ → ℕ → Type 0) → List ℕ → List (Option ℕ) → ℕ → Type 0
IsCutSearch Step sources levels depth = (rest : List ℕ) × (next : List ℕ) × IsSearch Step sources levels rest next depth
