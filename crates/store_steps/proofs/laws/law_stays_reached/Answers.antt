use Rattle.store_steps.proofs.Reached.{stays_reached, blank_reached}
use Rattle.store_steps.proofs.laws.law_stays_reached.Goals as goal

pub returns : goal.returns
returns c = record { reached = stays_reached; blank = blank_reached }
