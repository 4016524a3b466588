use Rattle.std.proofs.Common.{◌≤◌, length}
use Rattle.batch_shards.specs.Groups.{AreExpiries}
use Rattle.batch_shards.proofs.groups.expiries_of.Given as goal

abbrev pub invariant-loop-index : goal.invariant-loop-index
invariant-loop-index l = record {
  within : l.index ≤ length l.steps;
  expiries : AreExpiries l.index l.steps l.expiries.items;
}

abbrev pub decreases-loop-index : goal.decreases-loop-index
decreases-loop-index l = l.index
