-- The edges in blocks, as graph_types lists edges.
use Rattle.std.specs.{Prelude.{ℕ, List, map}, List.flat_map, Option.option_map, declared.option.Option.Option}
use Rattle.graph_types.specs.{Graph.{Graph, Stamp}, declared.ids.Edge.Edge}
use Rattle.edge_block.specs.{Slots.{BlockView, entries_of}, Lending.LentEdge, Listed.AreListedOnce}
pub use Rattle.edge_block.specs.Listed.{edge_from}

-- a block's edges, in slot order
abbrev pub edges_in_block : BlockView → List Edge
edges_in_block b = map edge_from (entries_of b)

-- the edges of several blocks taken together
abbrev pub edges_in_blocks : List BlockView → List Edge
edges_in_blocks blocks = flat_map edges_in_block blocks

-- the edges are each once the edges of the graph
abbrev pub AreEachOnce : List Edge → Graph → Type 0
AreEachOnce edges g = AreListedOnce edges g.edges

-- an edge of a kind to a target, as it is lent
abbrev pub lent_to : ℕ → ℕ → Option Stamp → Option LentEdge
lent_to kind target stamp = option_map (λ s. record { kind = kind; target = target; stamp = s }) stamp
