use Rattle.std.proofs.Common.{◌≡◌, length}
use Rattle.graph_version.specs.LentEdges.{edges_to_come, blocks_left}
use Rattle.graph_version.proofs.edges.EdgeIterIterator.next.Given as goal

abbrev pub invariant-loop-edge : goal.invariant-loop-edge
invariant-loop-edge l = edges_to_come l.self ≡ edges_to_come l.initial.self

abbrev pub decreases-loop-edge : goal.decreases-loop-edge
decreases-loop-edge l = length (blocks_left l.self.blocks)
