use Rattle.std.proofs.Common.{rules}
use Rattle.batch_shards.proofs.open_rows.do_step.Goals as goal

pub returns-in_default-clause-outcome : goal.returns-in_default-clause-outcome
returns-in_default-clause-outcome c = search rules
