-- Versions and the edges of their blocks.
use Rattle.std.specs.Prelude.{◌≡◌, ◌≢◌, ℕ, zero, suc, List, [], map, take, slice_get, slice_index_or, AllPairs}
use Rattle.std.specs.{List.flat_map, Option.unwrap_or, declared.option.Option.Option, declared.option.Option.TheVariants.None}
use Rattle.graph_types.specs.{Graph.{Graph, key_of, map_of, graph_in, content_of, IsContentIn}, Step.left_by}
use Rattle.graph_types.specs.declared.{ids.Edge.Edge, contents.Content.Content, batches.NamedOp.NamedOp}
use Rattle.epoch_core.specs.declared.states.{Version.Version, Opening.Opening}

-- Versions

abbrev pub graph_of_opening : Opening → Graph
graph_of_opening opening = graph_in opening.limits opening.content

-- what batches leave, one after another, of the opening graph
abbrev pub left : Opening → List (List NamedOp) → Graph
left opening batches = left_by batches (graph_of_opening opening)

-- the batches up to version n, and the graph that they leave
abbrev pub batches_at : List Version → ℕ → List (List NamedOp)
batches_at versions n = map (λ v. v.batch) (take n versions)

abbrev pub graph_at : Opening → List Version → ℕ → Graph
graph_at opening versions n = left opening (batches_at versions n)

-- version 0 has the opening's blocks, names and kinds
abbrev pub version_zero : Opening → Version
version_zero opening = record {
  batch = [];
  blocks = opening.blocks;
  names = opening.content.names;
  kinds = opening.content.kinds;
}

-- the version after version 0 that has this number, if there is one
abbrev pub posted_at : List Version → ℕ → Option Version
posted_at versions zero = None
posted_at versions (suc n) = slice_get versions n

abbrev pub version_at : Opening → List Version → ℕ → Version
version_at opening versions n = unwrap_or (posted_at versions n) (version_zero opening)

abbrev pub blocks_at : Opening → List Version → ℕ → List ℕ
blocks_at opening versions n = (version_at opening versions n).blocks

-- Edges

-- the edges in a block, and in several blocks taken together
abbrev pub edges_at : List (List Edge) → ℕ → List Edge
edges_at heap b = slice_index_or heap b []

abbrev pub edges_of : List (List Edge) → List ℕ → List Edge
edges_of heap blocks = flat_map (edges_at heap) blocks

-- the edges are each once the edges of the graph
pub record AreEdgesOf (edges : List Edge) (g : Graph) : Type 0 where
  pub once : AllPairs (λ a b. key_of a ≢ key_of b) edges
  pub same : map_of edges ≡ g.edges

-- the graph is that of some content, within its limits
abbrev pub IsContentGraph : Graph → Type 0
IsContentGraph g = (content : Content) × IsContentIn g.limits content × (graph_in g.limits content ≡ g)

-- the content of a version's names and kinds and of these edges
abbrev pub content_with : Version → List Edge → Content
content_with version edges = content_of version.names version.kinds edges
