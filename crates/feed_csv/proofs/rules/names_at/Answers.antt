use Rattle.std.proofs.Common.{rules}
use Rattle.feed_csv.{specs.Commands.names_at, proofs.Giving.refuses_same}
use Rattle.feed_csv.proofs.rules.names_at.Goals as goal

-- Its search is long where it fails.
pub returns-in_err-kind : goal.returns-in_err-kind
unfolding names_at
returns-in_err-kind c = search (rules, refuses_same)
