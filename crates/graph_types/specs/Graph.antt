-- A graph as a value: its vertex names, its kind names, and a finite map from keys to stamps.
-- STINGER's edge has a kind, a weight and two times (Ediger, McColl, Riedy, Bader; IEEE HPEC 2012); the names
-- and their numbers, the whole-number weights and the limits are this project's own profile.
use Rattle.std.specs.Prelude.{◌≡◌, ◌≢◌, ℕ, ◌<◌, ◌≤◌, ◌*◌, ℤ, List, map, length, All, AllPairs, Bool, not, ◌&&◌, ◌==◌, filter}
use Rattle.std.specs.{Ordering.{nat_cmp, ordering_then}, FinMap.{FinMap, from_entries, get}, declared.cmp.Ordering.Ordering}
use Rattle.std.specs.Prelude.{IfSome, nat_abs}
pub use Rattle.graph_types.specs.Limits.{IsWeight, IsTime}
use Rattle.graph_types.specs.Limits.{LimitsView, standard_limits, most_names, most_kinds, IsWeightIn, SumsFit}
use Rattle.graph_types.specs.declared.{ids.Edge.Edge, contents.Content.Content}

-- which edge: the numbers of its kind, its source and its target
pub record Key : Type 0 where
  pub kind : ℕ
  pub source : ℕ
  pub target : ℕ

-- what an edge bears: its weight, the time of its first insertion, and that of its last touch
pub record Stamp : Type 0 where
  pub weight : ℤ
  pub first : ℕ
  pub recent : ℕ

-- keys in order: by kind, then by source, then by target
abbrev pub key_cmp : Key → Key → Ordering
key_cmp a b =
    ordering_then (nat_cmp a.kind b.kind) (ordering_then (nat_cmp a.source b.source) (nat_cmp a.target b.target))

-- two graphs are equal where their names, their kinds and their maps are, and the limits that they may grow to
pub record Graph : Type 0 where
  pub names : List (List ℕ)
  pub kinds : List (List ℕ)
  pub edges : FinMap key_cmp Stamp
  pub limits : LimitsView

-- an edge's key and its stamp
abbrev pub key_of : Edge → Key
key_of e = record { kind = e.kind.0; source = e.source.0; target = e.target.0 }

abbrev pub stamp_of : Edge → Stamp
stamp_of e = record { weight = e.weight; first = e.first; recent = e.recent }

-- an edge as an entry of a map
abbrev pub entry_of : Edge → Key × Stamp
entry_of e = (key_of e, stamp_of e)

-- the map that has each listed edge's stamp at its key
abbrev pub map_of : List Edge → FinMap key_cmp Stamp
map_of edges = from_entries (map entry_of edges)

-- whether an edge has the key
abbrev pub has_key : Key → Edge → Bool
has_key key e = (e.kind.0 == key.kind) && (e.source.0 == key.source) && (e.target.0 == key.target)

-- the edges that don't have the key
abbrev pub without : Key → List Edge → List Edge
without key edges = filter (λ e. not (has_key key e)) edges

-- the graph that a content's lists show, under these limits and under the standard ones
abbrev pub graph_in : LimitsView → Content → Graph
graph_in limits c = record { names = c.names; kinds = c.kinds; edges = map_of c.edges; limits = limits }

abbrev pub graph_of : Content → Graph
graph_of c = graph_in standard_limits c

-- a graph but for its limits: what answers see of it
abbrev pub unlimited : Graph → Graph
unlimited g = record g { limits = standard_limits }

-- a content of these lists
abbrev pub content_of : List (List ℕ) → List (List ℕ) → List Edge → Content
content_of names kinds edges = record { names = names; kinds = kinds; edges = edges }

-- an edge that has the key, of a weight and times in range
pub record IsAt (key : Key) (e : Edge) : Type 0 where
  pub key_is : key_of e ≡ key
  pub weight : IsWeight e.weight
  pub first : IsTime e.first
  pub recent : IsTime e.recent

-- an edge between vertices of a list of n names, of one of m kinds
pub record IsEdgeWithin (n m : ℕ) (e : Edge) : Type 0 where
  pub kind : e.kind.0 < m
  pub source : e.source.0 < n
  pub target : e.target.0 < n
  pub weight : IsWeight e.weight
  pub first : IsTime e.first
  pub recent : IsTime e.recent

-- a graph whose weights are within its limit
abbrev pub HasWeights : Graph → Type 0
HasWeights g = (key : Key) → IfSome (get g.edges key) (λ stamp. IsWeightIn g.limits.weight stamp.weight)

-- names and kinds are distinct and within the walls, each key is listed once, and each weight is so small that a sum of weights
-- of its size, one for each place and one more, is below 2 ^ 63
pub record IsContent (c : Content) : Type 0 where
  pub names_distinct : AllPairs (λ a b. a ≢ b) c.names
  pub kinds_distinct : AllPairs (λ a b. a ≢ b) c.kinds
  pub names_few : length c.names ≤ most_names
  pub kinds_few : length c.kinds ≤ most_kinds
  pub keys_distinct : AllPairs (λ a b. key_of a ≢ key_of b) c.edges
  pub edges_within : All (IsEdgeWithin (length c.names) (length c.kinds)) c.edges
  pub sums_fit : All (λ e. SumsFit (length c.names * length c.kinds) (nat_abs e.weight)) c.edges

-- a content within these limits
pub record IsContentIn (limits : LimitsView) (c : Content) : Type 0 where
  pub content : IsContent c
  pub names_few : length c.names ≤ limits.names
  pub kinds_few : length c.kinds ≤ limits.kinds
  pub weights_few : All (λ e. IsWeightIn limits.weight e.weight) c.edges
