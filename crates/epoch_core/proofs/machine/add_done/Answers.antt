use Rattle.std.proofs.Common.{rules}
use Rattle.epoch_core.proofs.machine.add_done.Goals as goal

pub returns-in-Skipped : goal.returns-in-Skipped
returns-in-Skipped c = search rules
