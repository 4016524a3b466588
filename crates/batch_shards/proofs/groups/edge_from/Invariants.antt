use Rattle.std.proofs.Common.{◌≡◌, ◌-◌, ◌≤◌, ◌<◌, ℕ, false, length, get_or}
use Rattle.batch_shards.specs.{Groups.is_on_row, declared.shard.Step.Step}
use Rattle.batch_shards.proofs.groups.edge_from.Given as goal

abbrev pub invariant-loop-next : goal.invariant-loop-next
invariant-loop-next l = record {
  ahead : l.place ≤ l.next;
  within : l.next ≤ length l.steps;
  between : (k : ℕ) (s : Step) → l.place ≤ k → k < l.next → is_on_row l.row (get_or l.steps k s).act ≡ false;
}

abbrev pub decreases-loop-next : goal.decreases-loop-next
decreases-loop-next l = length l.steps - l.next
