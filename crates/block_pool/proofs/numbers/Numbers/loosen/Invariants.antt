use Rattle.std.proofs.Common.{◌≡◌, length}
use Rattle.block_pool.specs.{Chains.stack_of, Kept.{IsNumbers, IsSame}}
use Rattle.block_pool.proofs.numbers.Numbers.loosen.Given as goal

abbrev pub invariant-loosen : goal.invariant-loosen
invariant-loosen l = record {
  kept : IsNumbers l.self;
  same : IsSame l.initial.self l.self;
  least : l.self.least ≡ l.initial.self.least;
}

abbrev pub decreases-loosen : goal.decreases-loosen
decreases-loosen l = length (stack_of l.self.retired.lists l.stack)
