use Rattle.std.proofs.Common.{◌∙◌}
use Rattle.epoch_core.proofs.start.copy_of.Goals as goal

pub returns : goal.returns
returns c = c.of.ensures ∙ c.in_ok-items.ensures.items ∙ c.as_slice.ensures
