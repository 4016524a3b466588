use Rattle.std.proofs.Common.{rules}
use Rattle.feed_csv.proofs.number.magnitude.Goals as goal

-- Its search is long where it fails.
pub returns-in_default : goal.returns-in_default
returns-in_default c = search rules
