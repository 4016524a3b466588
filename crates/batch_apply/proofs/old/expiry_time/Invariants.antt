use Rattle.std.proofs.Common.{◌≡◌, drop, max}
use Rattle.batch_apply.specs.OldRows.{expiry_time}
use Rattle.batch_apply.proofs.old.expiry_time.Given as goal

abbrev pub invariant-loop-op : goal.invariant-loop-op
invariant-loop-op l = max l.time (expiry_time (drop l.op-index l.ops)) ≡ expiry_time l.ops
