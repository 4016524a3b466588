use Rattle.std.proofs.Common.{rules}
use Rattle.epoch_core.proofs.replying.answer_at.Goals as goal

pub answer_over-requires : goal.answer_over-requires
answer_over-requires c = search rules

pub returns : goal.returns
returns c = search rules
