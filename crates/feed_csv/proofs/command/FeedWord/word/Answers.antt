use Rattle.std.proofs.Common.{rules}
use Rattle.feed_csv.proofs.command.FeedWord.word.Goals as goal

pub returns-in-BadTime : goal.returns-in-BadTime
returns-in-BadTime c = search rules
