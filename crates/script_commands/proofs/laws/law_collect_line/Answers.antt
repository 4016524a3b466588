use Rattle.script_commands.proofs.CollectLine.{tells_what_is_held}
use Rattle.script_commands.proofs.laws.law_collect_line.Goals as goal

pub returns : goal.returns
returns c = tells_what_is_held
