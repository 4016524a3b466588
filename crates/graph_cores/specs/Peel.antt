-- Links, which join different vertices both ways, and peeling: vertices are taken out, those with fewest neighbors first.
use Rattle.std.specs.Prelude.{◌≡◌, ℕ, ◌+◌, ◌-◌, ◌<◌, ◌≤◌, ◌==◌, List, [], ◌∷◌, ◌++◌, slice_index_or, slice_set, Bool, false, cond}
use Rattle.std.specs.{Prelude.{◌≢◌, ◌⊎◌, ◌↔◌, IsTrue, All, count_by, ◌&&◌, nat_le, nat_lt}, List.{Contains, flat_map}}
use Rattle.graph_types.specs.{Graph.Graph, Analyses.{IsDense, IsCoreNumber, Joins}, Arcs.at, declared.ids.Filter.Filter}

-- each link, and right after it the same one turned
abbrev pub both_ways : List (ℕ × ℕ) → List (ℕ × ℕ)
both_ways links = flat_map (λ link. link ∷ (link.1, link.0) ∷ []) links

-- each two different vertices that an edge of the view joins, both ways, as often as may be
abbrev pub AreAllLinks : Filter → Graph → List (ℕ × ℕ) → Type 0
AreAllLinks f g links = (v w : ℕ) → Contains links (v, w) ↔ ((w ≢ v) × Joins f g v w)

-- v and w are the source and another of the targets, in either order
abbrev pub IsLinked : ℕ → List ℕ → ℕ → ℕ → Type 0
IsLinked source targets v w = (w ≢ v) × (((v ≡ source) × Contains targets w) ⊎ ((w ≡ source) × Contains targets v))

-- whether v is left
abbrev pub is_alive : List Bool → ℕ → Bool
is_alive alive v = slice_index_or alive v false

-- each listed vertex has a neighbor less, and is put at the end where that leaves k
abbrev pub lowered : ℕ → List ℕ → List ℕ → List ℕ → List ℕ × List ℕ
lowered k [] degrees stack = (degrees, stack)
lowered k (w ∷ ws) degrees stack =
    lowered k ws (slice_set degrees w (at degrees w - 1)) (cond (at degrees w == k + 1) (stack ++ w ∷ []) stack)

-- left, with at most k neighbors left, or with more
abbrev pub is_low : List Bool → List ℕ → ℕ → ℕ → Bool
is_low alive degrees k v = is_alive alive v && nat_le (at degrees v) k

abbrev pub is_high : List Bool → List ℕ → ℕ → ℕ → Bool
is_high alive degrees k v = is_alive alive v && nat_lt k (at degrees v)

-- On the way through round k: how many neighbors that are left each vertex has; a set that is k-dense and has all that are
-- left; the core numbers of those of n that are taken out; and the stack, which has all that are left with at most k.
pub record IsPeeling (f : Filter) (g : Graph) (n : ℕ) (neighbors : ℕ → List ℕ) (alive : List Bool) (degrees cores stack : List ℕ)
    (k : ℕ) : Type 0 where
  pub count : (v : ℕ) → at degrees v ≡ count_by (is_alive alive) (neighbors v)
  pub dense : (member : ℕ → Bool) × IsDense f g k member × ((v : ℕ) → IsTrue (is_alive alive v) → IsTrue (member v))
  pub known : (v : ℕ) → v < n → is_alive alive v ≡ false → IsCoreNumber f g v (at cores v) × (at cores v ≤ k)
  pub listed : (v : ℕ) → IsTrue (is_alive alive v) → at degrees v ≤ k → Contains stack v
  pub low : All (λ v. at degrees v ≤ k) stack

-- Before round k: how many neighbors that are left each vertex has, at least k where it is left; the core numbers of those
-- of n that are taken out; and the list of those left, with others.
pub record IsBetween (f : Filter) (g : Graph) (n : ℕ) (neighbors : ℕ → List ℕ) (alive : List Bool) (degrees cores left : List ℕ)
    (k : ℕ) : Type 0 where
  pub count : (v : ℕ) → at degrees v ≡ count_by (is_alive alive) (neighbors v)
  pub many : (v : ℕ) → IsTrue (is_alive alive v) → k ≤ at degrees v
  pub known : (v : ℕ) → v < n → is_alive alive v ≡ false → IsCoreNumber f g v (at cores v) × (at cores v < k)
  pub all : (v : ℕ) → IsTrue (is_alive alive v) → Contains left v
