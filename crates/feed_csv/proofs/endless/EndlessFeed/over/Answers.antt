use Rattle.std.proofs.Common.{rules}
use Rattle.feed_csv.proofs.endless.EndlessFeed.over.Goals as goal

pub returns : goal.returns
returns c = search rules
