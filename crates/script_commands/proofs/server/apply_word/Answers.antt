use Rattle.std.proofs.Common.{rules}
use Rattle.script_commands.proofs.server.apply_word.Goals as goal

pub returns-in-PoolEmpty-clause-word : goal.returns-in-PoolEmpty-clause-word
returns-in-PoolEmpty-clause-word c = search rules
