use Rattle.std.proofs.Common.{rules}
use Rattle.epoch_core.proofs.machine.Core.step.Goals as goal

pub returns-clause-steps : goal.returns-clause-steps
returns-clause-steps c = search rules
