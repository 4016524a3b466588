use Rattle.std.specs.Prelude.{All}
use Rattle.edge_block.specs.{Slots.IsStamp, Lending.edges_left}
use Rattle.edge_block.proofs.LentEntries.{edges_lent}
use Rattle.graph_cores.{specs.Tallies.shown_block, proofs.Parts.IsBegun}
use Rattle.graph_cores.proofs.tallies.count_block.Given as goal

abbrev pub invariant-loop-edge : goal.invariant-loop-edge
invariant-loop-edge l = record {
  begun : IsBegun l.view (shown_block l.view l.block) (edges_lent l.block.source (edges_left l.edge-iterator)) l.fn.table l.table;
  stamps : All (λ e. IsStamp e.stamp) (edges_left l.edge-iterator);
}
