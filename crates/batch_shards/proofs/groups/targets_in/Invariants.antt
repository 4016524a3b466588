use Rattle.std.proofs.Common.{◌≡◌, ◌-◌, ◌≤◌, ◌<◌, length, get_or, true}
use Rattle.batch_shards.specs.{Groups.is_on_row, declared.shard.Step.Step}
use Rattle.batch_shards.proofs.groups.targets_in.Given as goal

abbrev pub invariant-loop-index : goal.invariant-loop-index
invariant-loop-index l = record {
  within : l.index ≤ length l.steps;
  there : (s : Step) → l.index < length l.steps → is_on_row l.row (get_or l.steps l.index s).act ≡ true;
}

abbrev pub decreases-loop-index : goal.decreases-loop-index
decreases-loop-index l = length l.steps - l.index
