-- The edges that lead to a vertex.
use Rattle.std.specs.Prelude.{ℕ, List, Bool, filter, ◌==◌}
use Rattle.graph_types.specs.declared.ids.Edge.{Edge}
use Rattle.graph_version.specs.{Edges.edges_in_blocks, LentEdges.blocks_left, declared.in_edges.InEdgeIter.InEdgeIter}

-- whether an edge leads to a vertex
abbrev pub leads_into : ℕ → Edge → Bool
leads_into vertex e = e.target.0 == vertex

-- the edges of a list that lead to a vertex, in the list's order
abbrev pub edges_into : ℕ → List Edge → List Edge
edges_into vertex edges = filter (leads_into vertex) edges

-- the edges that are still to come: those of the blocks that are left
abbrev pub into_left : InEdgeIter → List Edge
into_left it = edges_into it.target.0 (edges_in_blocks (blocks_left it.blocks))
