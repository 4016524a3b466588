use Rattle.std.proofs.Common.{rules}
use Rattle.epoch_core.proofs.machine.Core.pin_of.Goals as goal

-- Its search is long where it fails.
pub returns : goal.returns
returns c = search rules
