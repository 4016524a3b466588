use Rattle.std.proofs.Common.{◌≡◌, ◌++◌, take, All}
use Rattle.graph_types.specs.Graph.{stamp_of}
use Rattle.edge_block.specs.Slots.{IsStamp}
use Rattle.graph_version.specs.Sharing.{block_values}
use Rattle.graph_version.specs.Edges.{edges_in_blocks}
use Rattle.graph_version.proofs.rebase.push_row.Given as goal

abbrev pub invariant-loop-block : goal.invariant-loop-block
invariant-loop-block l = record {
  edges : l.edges.items ≡ l.fn.edges.items ++ edges_in_blocks (block_values (take l.block-index l.blocks));
  stamps : All (λ e. IsStamp (stamp_of e)) l.fn.edges.items → All (λ e. IsStamp (stamp_of e)) l.edges.items;
}
