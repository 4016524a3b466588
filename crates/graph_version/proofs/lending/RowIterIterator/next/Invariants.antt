use Rattle.std.proofs.Common.{◌≡◌, length}
use Rattle.graph_version.specs.Lending.{row_left}
use Rattle.graph_version.proofs.lending.RowIterIterator.next.Given as goal

abbrev pub invariant-loop-edge : goal.invariant-loop-edge
invariant-loop-edge l = row_left l.self ≡ row_left l.initial.self

abbrev pub decreases-loop-edge : goal.decreases-loop-edge
decreases-loop-edge l = length l.self.blocks.now
