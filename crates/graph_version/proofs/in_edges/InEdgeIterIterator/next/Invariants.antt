use Rattle.std.proofs.Common.{◌≡◌, length}
use Rattle.graph_version.specs.{InEdges.into_left, LentEdges.blocks_left}
use Rattle.graph_version.proofs.in_edges.InEdgeIterIterator.next.Given as goal

abbrev pub invariant-loop-block : goal.invariant-loop-block
invariant-loop-block l = into_left l.self ≡ into_left l.initial.self

abbrev pub decreases-loop-block : goal.decreases-loop-block
decreases-loop-block l = length (blocks_left l.self.blocks)
