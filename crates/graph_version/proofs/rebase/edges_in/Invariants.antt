use Rattle.std.proofs.Common.{◌≡◌, take, All}
use Rattle.graph_types.specs.Graph.{stamp_of}
use Rattle.edge_block.specs.Slots.{IsStamp}
use Rattle.graph_version.specs.Rows.{blocks_of}
use Rattle.graph_version.specs.Edges.{edges_in_blocks}
use Rattle.graph_version.proofs.rebase.edges_in.Given as goal

abbrev pub invariant-loop-source : goal.invariant-loop-source
invariant-loop-source l = record {
  edges : l.edges.items ≡ edges_in_blocks (blocks_of (take l.source l.rows));
  stamps : All (λ e. IsStamp (stamp_of e)) l.edges.items;
}
