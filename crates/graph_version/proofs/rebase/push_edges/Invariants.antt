use Rattle.std.proofs.Common.{◌≡◌, ◌++◌, map, All}
use Rattle.graph_types.specs.Graph.{stamp_of}
use Rattle.edge_block.specs.{Slots.IsStamp, Lending.edges_left}
use Rattle.graph_version.{specs.Edges.edges_in_block, specs.LentEdges.lent_as_edge}
use Rattle.graph_version.proofs.rebase.push_edges.Given as goal

abbrev pub invariant-loop-edge : goal.invariant-loop-edge
invariant-loop-edge l = record {
  edges : l.edges.items ++ map (lent_as_edge l.block.source) (edges_left l.edge-iterator) ≡ l.fn.edges.items
      ++ edges_in_block l.block;
  stamps : All (λ e. IsStamp (stamp_of e)) l.fn.edges.items → All (λ e. IsStamp (stamp_of e)) l.edges.items;
  left : All (λ e. IsStamp e.stamp) (edges_left l.edge-iterator);
}
