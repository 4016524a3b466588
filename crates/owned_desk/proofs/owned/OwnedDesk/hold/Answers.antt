use Rattle.std.proofs.Common.{length, rules, subst}
use Rattle.owned_desk.specs.Owned.{OwnedView, HoldsOnce, IsOwned}
use Rattle.owned_desk.proofs.OwnedMoves.{hold_follows}
use Rattle.owned_desk.proofs.owned.OwnedDesk.hold.Goals as goal

pub returns-clause-follows : goal.returns-clause-follows
returns-clause-follows c =
    let old : OwnedView = c.args.self.now in
    let holds : HoldsOnce old (length old.desk.last.batches) c.pin.new.self = search rules in
    hold_follows old c.pin.new.self (subst IsOwned c.self.view_is c.self.invariant.owned) holds
