use Rattle.std.proofs.Common.{◌≡◌, ◌≤◌, length}
use Rattle.batch_shards.specs.Groups.{AreStepGroups}
use Rattle.batch_shards.proofs.groups.groups_of.Given as goal

abbrev pub invariant-loop-index : goal.invariant-loop-index
invariant-loop-index l = record {
  within : l.index ≤ length l.steps;
  firsts : length l.first.items ≡ l.rows;
  nexts : length l.next.items ≡ length l.steps;
  groups : AreStepGroups l.index l.steps l.first.items l.next.items;
}

abbrev pub decreases-loop-index : goal.decreases-loop-index
decreases-loop-index l = l.index
