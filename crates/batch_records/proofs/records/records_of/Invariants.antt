-- The text so far is that of the operations so far.
use Rattle.std.proofs.Common.{◌≡◌, take}
use Rattle.batch_records.specs.Texts.{records_text}
use Rattle.batch_records.proofs.records.records_of.Given as goal

abbrev pub invariant-loop-op : goal.invariant-loop-op
invariant-loop-op l = l.text.items ≡ records_text (take l.op-index l.ops)
