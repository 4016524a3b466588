use Rattle.owned_desk.proofs.OwnedHeld.{held_are_snapshots}
use Rattle.owned_desk.proofs.owned.OwnedDesk.apply_known.Goals as goal

pub returns-clause-snapshots : goal.returns-clause-snapshots
returns-clause-snapshots c = held_are_snapshots c.replace_with.new.dest
