-- The arcs of a view, and numbers at vertices that are lowered along arcs or by want of neighbors: the words of the
-- slow forms of levels, labels and core numbers, by which each content is shown to have them.
use Rattle.std.specs.Prelude.{◌≡◌, ◌≢◌, ℕ, ◌+◌, ◌*◌, ◌<◌, ◌≤◌, ◌↔◌, nat_le, nat_lt, cond, List, ◌++◌, length, map, filter}
use Rattle.std.specs.{Prelude.{replicate, slice_index_or, slice_set, count_by, All, AllPairs}, List.Contains}
use Rattle.std.specs.declared.option.Option.{Option, TheVariants.{None, Some}}
use Rattle.graph_types.specs.{Graph.{Graph, key_of, stamp_of}, View.in_view, Analyses.{Joins, Walk, InCore}}
use Rattle.graph_types.specs.declared.ids.{Edge.Edge, Filter.Filter}

-- source and target of each listed edge of the view
abbrev pub arcs_of : Filter → List Edge → List (ℕ × ℕ)
arcs_of f edges = map (λ e. (e.source.0, e.target.0)) (filter (λ e. in_view f (key_of e, stamp_of e)) edges)

-- the arcs, and then each turned
abbrev pub two_way : List (ℕ × ℕ) → List (ℕ × ℕ)
two_way arcs = arcs ++ map (λ arc. (arc.1, arc.0)) arcs

-- an arc leads from a to b
abbrev pub Arc : List (ℕ × ℕ) → ℕ → ℕ → Type 0
Arc arcs a b = Contains arcs (a, b)

-- the arcs are between n vertices
abbrev pub AreWithin : ℕ → List (ℕ × ℕ) → Type 0
AreWithin n arcs = All (λ arc. (arc.0 < n) × (arc.1 < n)) arcs

-- the number at a vertex, 0 past the last
abbrev pub at : List ℕ → ℕ → ℕ
at numbers v = slice_index_or numbers v 0

-- each number is the first one of a vertex from which a walk leads here, and a step for each arc of the walk
pub record IsLowered (arcs : List (ℕ × ℕ)) (step : ℕ) (first numbers : List ℕ) : Type 0 where
  pub size : length numbers ≡ length first
  pub below : (v : ℕ) → at numbers v ≤ at first v
  pub walked : (v : ℕ) → v < length first
      → (u : ℕ) × (n : ℕ) × (u < length first) × Walk (Arc arcs) u v n × (at numbers v ≡ at first u + n * step)

-- no number is more than a step above one from which an arc leads to it
abbrev pub IsClosed : List (ℕ × ℕ) → ℕ → List ℕ → Type 0
IsClosed arcs step numbers = All (λ arc. at numbers arc.1 ≤ at numbers arc.0 + step) arcs

-- 0 at the source, and n, which no level of n vertices reaches, at all others
abbrev pub level_start : ℕ → ℕ → List ℕ
level_start n source = slice_set (replicate n n) source 0

abbrev pub level_below : ℕ → ℕ → Option ℕ
level_below n number = cond (nat_lt number n) (Some number) None

-- for each vertex the other vertices that an edge of the view joins to it, each once
pub record AreNeighbors (f : Filter) (g : Graph) (neighbors : ℕ → List ℕ) : Type 0 where
  pub apart : (v : ℕ) → AllPairs (λ a b. a ≢ b) (neighbors v)
  pub exact : (v w : ℕ) → Contains (neighbors v) w ↔ ((w ≢ v) × Joins f g v w)

-- how many neighbors have at least the number of v
abbrev pub support : (ℕ → List ℕ) → List ℕ → ℕ → ℕ
support neighbors numbers v = count_by (λ w. nat_le (at numbers v) (at numbers w)) (neighbors v)

-- no core number is greater
abbrev pub AreUpper : Filter → Graph → ℕ → List ℕ → Type 0
AreUpper f g n numbers = (v k : ℕ) → v < n → InCore f g k v → k ≤ at numbers v
