use Rattle.std.proofs.Common.{◌≡◌, ◌+◌, length, replicate, rules}
use Rattle.block_reclamation.specs.declared.copies.TheConstants.{SEATS}
use Rattle.store_steps.specs.Opening.{IsVersionZero, opened_desk}
use Rattle.owned_desk.specs.Owned.{OwnedView, opened_owned, owned_view}
use Rattle.owned_desk.proofs.{OwnedHeld.starts_anew, OwnedLaws.opens_owned}
use Rattle.owned_desk.proofs.owned.OwnedDesk.rebase.Goals as goal

pub invariant_of-self-2 : goal.invariant_of-self-2
invariant_of-self-2 c =
    opens_owned c.reopen.new.self c.in-Some.next c.new.result c.none-kept.result c.facts.ensures.replays.version c.new.ensures c.none-kept.ensures

pub returns-clause-starts : goal.returns-clause-starts
returns-clause-starts c =
    let old : OwnedView = c.args.self.now in
    let new : OwnedView = owned_view c.reopen.new.self c.new.result (replicate SEATS 0) c.in-Some.next c.none-kept.result in
    let zero_is : IsVersionZero (length old.desk.pool) new.desk.last = search rules in
    let opened : new ≡ opened_owned (opened_desk (length old.desk.pool) new.desk.last) (old.opening + 1) = search rules in
    starts_anew new (length old.desk.pool) (old.opening + 1) zero_is opened
