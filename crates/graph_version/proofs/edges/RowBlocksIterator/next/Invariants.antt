use Rattle.std.proofs.Common.{◌≡◌, ◌-◌, length}
use Rattle.graph_version.specs.LentEdges.{blocks_left}
use Rattle.graph_version.proofs.edges.RowBlocksIterator.next.Given as goal

abbrev pub invariant-loop-self : goal.invariant-loop-self
invariant-loop-self l = blocks_left l.self ≡ blocks_left l.initial.self

abbrev pub decreases-loop-self : goal.decreases-loop-self
decreases-loop-self l = length l.self.rows.now - l.self.source
