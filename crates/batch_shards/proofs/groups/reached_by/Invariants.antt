use Rattle.std.proofs.Common.{◌≡◌, ◌<◌, ◌+◌, ℕ, length, get_or, take}
use Rattle.batch_shards.specs.Spending.{latest}
use Rattle.batch_shards.proofs.groups.reached_by.Given as goal

abbrev pub invariant-loop-step : goal.invariant-loop-step
invariant-loop-step l = record {
  greatest : l.latest ≡ latest (take l.step-index l.steps);
  long : length l.reached.items ≡ l.step-index;
  are : (k : ℕ) → k < l.step-index → get_or l.reached.items k 0 ≡ latest (take (k + 1) l.steps);
}
