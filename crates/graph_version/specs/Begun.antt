-- Version 0 over rows that were made apart.
use Rattle.std.specs.Prelude.{ℕ, List, []}
use Rattle.graph_types.specs.{Graph.{Graph, map_of}, Limits.LimitsView}
use Rattle.edge_block.specs.Slots.{BlockView}
use Rattle.graph_version.specs.{Edges.edges_in_blocks, Rows.blocks_of, Versions.VersionView}

-- the graph of these names and kinds, with the edges of these rows
abbrev pub graph_by : LimitsView → List (List ℕ) → List (List ℕ) → List (List BlockView) → Graph
graph_by limits names kinds rows =
    record { names = names; kinds = kinds; edges = map_of (edges_in_blocks (blocks_of rows)); limits = limits }

-- the version that begins with that graph, in these rows
abbrev pub begun_over : LimitsView → List (List ℕ) → List (List ℕ) → List (List BlockView) → VersionView
begun_over limits names kinds rows = record { opening = graph_by limits names kinds rows; batches = []; rows = rows }
