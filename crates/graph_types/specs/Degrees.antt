-- Degrees over a plain list of edges, and a table of them.
use Rattle.std.specs.Prelude.{◌≡◌, ℕ, ◌+◌, ◌<◌, ◌≤◌, ◌^◌, pos, nat_abs, ◌+ℤ◌, ◌==◌, cond, List, map, filter, count_by, fold}
use Rattle.std.specs.Prelude.{length, slice_index_or}
use Rattle.graph_types.specs.{Graph.entry_of, Limits.most_places, View.{leaves, enters}}
use Rattle.graph_types.specs.declared.ids.{Degree.Degree, Edge.Edge, Filter.Filter}

-- the degrees of v over the listed edges that the filter lets through
abbrev pub listed_degree : Filter → List Edge → ℕ → Degree
listed_degree f edges v = record {
  outgoing = count_by (λ e. leaves f v (entry_of e)) edges;
  incoming = count_by (λ e. enters f v (entry_of e)) edges;
  out_weight = fold ◌+ℤ◌ (pos 0) (map (λ e. e.weight) (filter (λ e. leaves f v (entry_of e)) edges));
}

-- a table that has the degrees over the listed edges at each of n vertices
pub record IsTally (f : Filter) (edges : List Edge) (n : ℕ) (table : List Degree) : Type 0 where
  pub size : length table ≡ n
  pub at : (v : ℕ) (d : Degree) → v < n → slice_index_or table v d ≡ listed_degree f edges v

-- what one edge more makes of the degrees of v
abbrev pub with_edge : Edge → ℕ → Degree → Degree
with_edge e v d = record {
  outgoing = d.outgoing + cond (e.source.0 == v) 1 0;
  incoming = d.incoming + cond (e.target.0 == v) 1 0;
  out_weight = d.out_weight +ℤ cond (e.source.0 == v) e.weight (pos 0);
}

-- a table with one edge more
pub record CountsEdge (e : Edge) (old new : List Degree) : Type 0 where
  pub size : length new ≡ length old
  pub at : (v : ℕ) (d : Degree) → v < length old → slice_index_or new v d ≡ with_edge e v (slice_index_or old v d)

-- degrees to which an edge of a weight of this size can be added
pub record HasDegreeRoom (weight : ℕ) (d : Degree) : Type 0 where
  pub outgoing : d.outgoing ≤ most_places
  pub incoming : d.incoming ≤ most_places
  pub out_weight : nat_abs d.out_weight + weight < 2 ^ 63
