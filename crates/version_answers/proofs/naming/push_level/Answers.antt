use Rattle.std.proofs.Common.{rules}
use Rattle.version_answers.proofs.naming.push_level.Goals as goal

-- Its search is long where it fails.
pub returns-in_ok-push : goal.returns-in_ok-push
returns-in_ok-push c = search rules
