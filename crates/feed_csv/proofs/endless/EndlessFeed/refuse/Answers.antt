use Rattle.std.proofs.Common.{rules}
use Rattle.feed_csv.proofs.endless.EndlessFeed.refuse.Goals as goal

-- Its search is long where it fails.
pub returns-clause-fault : goal.returns-clause-fault
returns-clause-fault c = search rules
