use Rattle.std.proofs.Common.{◌≡◌, ◌≤◌, length}
use Rattle.block_pool.specs.Pools.{AreBodies}
use Rattle.block_pool.proofs.pool.give_up.Given as goal

abbrev pub invariant-back : goal.invariant-back
invariant-back l = record {
  low : l.place ≤ l.count;
  bodies : AreBodies (length l.numbers.statuses.items) l.bodies.items;
  rooms : l.bodies.rooms ≡ l.initial.bodies.rooms;
}

abbrev pub decreases-back : goal.decreases-back
decreases-back l = l.place
