use Rattle.std.proofs.Common.{◌≡◌, map, take}
use Rattle.batch_shards.specs.Groups.{none_told}
use Rattle.batch_shards.proofs.shard.none_done.Given as goal

abbrev pub invariant-loop-step : goal.invariant-loop-step
invariant-loop-step l = record {
  outcomes : l.outcomes.items ≡ map (λ s. (s.op, none_told s.act)) (take l.step-index l.steps);
}
