use Rattle.std.proofs.Common.{◌≡◌, rules}
use Rattle.store_steps.specs.Acceptances.{Accepts}
use Rattle.owned_desk.specs.Owned.{OwnedView}
use Rattle.owned_desk.proofs.OwnedMoves.{batch_follows}
use Rattle.owned_desk.proofs.owned_ready.OwnedReady.finish.Goals as goal

pub returns-clause-follows : goal.returns-clause-follows
returns-clause-follows c =
    let old : OwnedView = c.args.self.old in
    let new : OwnedView = c.with.result in
    let accepts : Accepts old.desk c.args.self.ops new.desk = search rules in
    let same : new ≡ record old { desk = new.desk } = search rules in
    batch_follows old new c.args.self.ops accepts same
