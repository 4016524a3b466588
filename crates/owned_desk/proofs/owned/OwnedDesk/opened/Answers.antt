use Rattle.owned_desk.proofs.OwnedLaws.{opens_owned}
use Rattle.owned_desk.proofs.owned.OwnedDesk.opened.Goals as goal

pub invariant_of-result : goal.invariant_of-result
invariant_of-result c =
    opens_owned c.args.desk c.args.opening c.new.result c.none-kept.result c.facts.ensures.replays.version c.new.ensures c.none-kept.ensures
