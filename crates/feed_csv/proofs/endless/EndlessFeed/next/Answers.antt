use Rattle.std.proofs.Common.{rules}
use Rattle.feed_csv.proofs.Refusals.{step_valid}
use Rattle.feed_csv.proofs.endless.EndlessFeed.next.Goals as goal

pub take-requires : goal.take-requires
take-requires c = search rules

pub returns-in-Reading-clause-valid : goal.returns-in-Reading-clause-valid
returns-in-Reading-clause-valid g c = step_valid c.take.result _ _ c.take.ensures
