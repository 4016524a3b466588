use Rattle.std.proofs.Common.{◌≡◌, take, map}
use Rattle.batch_apply.specs.Plan.{ends_in}
use Rattle.batch_apply.proofs.finding.find_each.Given as goal

-- the ends of those so far are found
abbrev pub invariant-loop-op : goal.invariant-loop-op
invariant-loop-op l = l.found.items ≡ map (ends_in l.names.names) (take l.op-index l.ops)
