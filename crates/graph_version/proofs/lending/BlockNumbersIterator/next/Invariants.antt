use Rattle.std.proofs.Common.{◌≡◌, ◌-◌, length}
use Rattle.graph_version.specs.Lending.{numbers_left}
use Rattle.graph_version.proofs.lending.BlockNumbersIterator.next.Given as goal

abbrev pub invariant-loop-self : goal.invariant-loop-self
invariant-loop-self l = numbers_left l.self ≡ numbers_left l.initial.self

abbrev pub decreases-loop-self : goal.decreases-loop-self
decreases-loop-self l = length l.self.rows.now - l.self.source
