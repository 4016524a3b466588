use Rattle.std.proofs.Common.{◌≡◌, rules}
use Rattle.graph_version.specs.Batches.{batch_value}
use Rattle.store_steps.specs.Acceptances.{Accepts}
use Rattle.owned_desk.specs.Owned.{OwnedView}
use Rattle.owned_desk.proofs.OwnedMoves.{batch_follows}
use Rattle.owned_desk.proofs.owned.OwnedDesk.applied.Goals as goal

pub returns-in-Ok-clause-follows : goal.returns-in-Ok-clause-follows
returns-in-Ok-clause-follows c =
    let old : OwnedView = c.args.self in
    let new : OwnedView = c.finish-desk.result.0 in
    let accepts : Accepts old.desk (batch_value c.args.given.0) new.desk = search rules in
    let same : new ≡ record old { desk = new.desk } = search rules in
    batch_follows old new (batch_value c.args.given.0) accepts same
