-- All edges of a version, as it lends them.
use Rattle.std.specs.Prelude.{ℕ, List, ◌++◌, map, drop}
use Rattle.graph_types.specs.declared.ids.Edge.{Edge}
use Rattle.edge_block.specs.{Slots.BlockView, Lending.LentEdge}
use Rattle.graph_version.specs.{Rows.blocks_of, Sharing.block_values}
use Rattle.graph_version.specs.{Edges.edges_in_blocks, Lending.left_in}
use Rattle.graph_version.specs.declared.edges.{RowBlocks.RowBlocks, EdgeIter.EdgeIter}

-- an edge that a block of a source lends, as graph_types lists edges
abbrev pub lent_as_edge : ℕ → LentEdge → Edge
lent_as_edge source lent = record {
  kind = record { 0 = lent.kind };
  source = record { 0 = source };
  target = record { 0 = lent.target };
  weight = lent.stamp.weight;
  first = lent.stamp.first;
  recent = lent.stamp.recent;
}

-- the blocks that are still to be lent: those that are left of a row, and those of the rows after it
abbrev pub blocks_left : RowBlocks → List BlockView
blocks_left it = block_values it.blocks.now ++ blocks_of (drop it.source it.rows.now)

-- the edges that are still to be lent: those that are left of a block, and those of the blocks after it
abbrev pub edges_to_come : EdgeIter → List Edge
edges_to_come it = map (lent_as_edge it.source.0) (left_in it.edges) ++ edges_in_blocks (blocks_left it.blocks)
