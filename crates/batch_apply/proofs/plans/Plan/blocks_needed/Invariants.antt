use Rattle.std.{proofs.Common.{◌≡◌, ◌-◌, ◌^◌, min, take}, specs.List.sum_by}
use Rattle.batch_apply.proofs.plans.Plan.blocks_needed.Given as goal

abbrev pub invariant-loop-need : goal.invariant-loop-need
invariant-loop-need l = l.all ≡ min (sum_by (λ n. n) (take l.need-index l.self.needs.items)) (2 ^ 64 - 1)
