use Rattle.std.proofs.Common.{rules}
use Rattle.epoch_core.proofs.machine.Core.replies.Goals as goal

pub returns : goal.returns
returns c = search rules
