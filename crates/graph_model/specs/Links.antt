-- Lists of links: pairs of different vertices that an edge of a view joins.
use Rattle.std.specs.{Prelude.{◌≢◌, ℕ, ◌==◌, nat_le, List, map, filter, Bool, ◌&&◌, ◌↔◌, AllPairs}, List.Contains}
use Rattle.graph_types.specs.{Graph.Graph, Analyses.Joins, Arcs.at, declared.ids.Filter.Filter}

-- each two different vertices that an edge joins, both ways and each once
pub record AreLinks (f : Filter) (g : Graph) (links : List (ℕ × ℕ)) : Type 0 where
  pub apart : AllPairs (λ a b. a ≢ b) links
  pub exact : (v w : ℕ) → Contains links (v, w) ↔ ((w ≢ v) × Joins f g v w)

-- the vertices to which links lead from v
abbrev pub ends : List (ℕ × ℕ) → ℕ → List ℕ
ends links v = map (λ link. link.1) (filter (λ link. link.0 == v) links)

-- whether a link leads from v to a vertex of at least its number
abbrev pub supports : List ℕ → ℕ → ℕ × ℕ → Bool
supports numbers v link = (link.0 == v) && nat_le (at numbers link.0) (at numbers link.1)
