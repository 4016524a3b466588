use Rattle.std.proofs.Common.{◌≡◌, ◌≤◌, ◌<◌, ℕ}
use Rattle.block_pool.specs.{Pools.marked, Kept.{statuses, popped, IsNumbers, IsReadyNumber}}
use Rattle.block_reclamation.specs.declared.status.BlockStatus.TheVariants.{Granted}
use Rattle.block_pool.proofs.numbers.Numbers.use_last.Given as goal

abbrev pub invariant-grant : goal.invariant-grant
invariant-grant l = record {
  kept : IsNumbers l.self;
  enough : l.left ≤ l.self.free_len;
  ready : (before : ℕ) → before < l.left → IsReadyNumber l.self before;
  after : marked (popped l.self.free.items l.self.free_len l.left) Granted (statuses l.self)
      ≡ marked (popped l.initial.self.free.items l.initial.self.free_len l.initial.left) Granted (statuses l.initial.self);
}

abbrev pub decreases-grant : goal.decreases-grant
decreases-grant l = l.left
