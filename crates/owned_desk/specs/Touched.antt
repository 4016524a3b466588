-- By source, the number of the last batch that touched it.
use Rattle.std.specs.Prelude.{◌≡◌, ℕ, ◌<◌, ◌≤◌, ◌/◌, ◌==◌, ◌&&◌, Bool, List, All, slice_index_or, nat_lt, if◌then◌else◌}
use Rattle.std.specs.List.{list_any}
use Rattle.graph_types.specs.declared.ids.VertexId.{VertexId}
use Rattle.version_diff.specs.Pairs.{AreSourcesRising}

-- 0 for a source that none touched
abbrev pub number_at : List ℕ → ℕ → ℕ
number_at numbers source = slice_index_or numbers source 0

abbrev pub is_source : List VertexId → ℕ → Bool
is_source sources s = list_any (λ v. s == v.0) sources

abbrev pub SameNumbers : List ℕ → List ℕ → Type 0
SameNumbers old new = (s : ℕ) → number_at new s ≡ number_at old s

-- these sources have this number now, and all others the number of before
abbrev pub TouchesSources : List VertexId → ℕ → List ℕ → List ℕ → Type 0
TouchesSources sources number old new =
    (s : ℕ) → number_at new s ≡ (if is_source sources s then number else number_at old s)

-- each of these sources is among the first so many
abbrev pub HaveRoom : ℕ → List VertexId → Type 0
HaveRoom room sources = All (λ v. v.0 < room) sources

-- a bound of each 64 sources, which is at least each of their numbers
abbrev pub AreBounds : List ℕ → List ℕ → Type 0
AreBounds bounds numbers = (s : ℕ) → number_at numbers s ≤ number_at bounds (s / 64)

-- the sources that batches of greater numbers touched, rising
pub record AreTouchedSince (number : ℕ) (numbers : List ℕ) (sources : List VertexId) : Type 0 where
  pub rising : AreSourcesRising sources
  pub are : (s : ℕ) → is_source sources s ≡ nat_lt number (number_at numbers s)

-- those of them that are below an end
pub record AreTouchedBelow (end number : ℕ) (numbers : List ℕ) (sources : List VertexId) : Type 0 where
  pub rising : AreSourcesRising sources
  pub below : All (λ v. v.0 < end) sources
  pub are : (s : ℕ) → is_source sources s ≡ (nat_lt s end && nat_lt number (number_at numbers s))
