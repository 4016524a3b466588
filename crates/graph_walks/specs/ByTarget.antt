-- The edges of a version in the order of their targets.
use Rattle.std.specs.Prelude.{◌≡◌, ℕ, List, map, filter}
use Rattle.std.specs.List.Sorted.{IsNonDecreasingBy}
use Rattle.graph_types.specs.{Graph.entry_of, View.in_view, declared.ids.{Edge.Edge, Filter.Filter}}
use Rattle.graph_version.specs.{Rows.blocks_of, Edges.{edges_in_blocks, AreEachOnce}, InEdges.edges_into, Versions.{VersionView, content}}

-- all edges of a version: sources rising, and those of one source in the order of its row
abbrev pub edges_of_version : VersionView → List Edge
edges_of_version v = edges_in_blocks (blocks_of v.rows)

-- targets rise, and the edges that lead to a vertex are all that the version has, in their order there
pub record AreByTarget (v : VersionView) (edges : List Edge) : Type 0 where
  pub rising : IsNonDecreasingBy (λ e. e.target.0) edges
  pub same : (target : ℕ) → edges_into target edges ≡ edges_into target (edges_of_version v)
  pub once : AreEachOnce (edges_of_version v) (content v)

-- those edges that a filter lets through, and their sources
abbrev pub edges_shown : Filter → List Edge → List Edge
edges_shown f edges = filter (λ e. in_view f (entry_of e)) edges

abbrev pub sources_shown : Filter → List Edge → List ℕ
sources_shown f edges = map (λ e. e.source.0) (edges_shown f edges)
