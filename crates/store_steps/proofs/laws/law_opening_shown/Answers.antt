use Rattle.store_steps.proofs.OpeningShown.{opens_as_machine, opens_blank}
use Rattle.store_steps.proofs.laws.law_opening_shown.Goals as goal

pub returns : goal.returns
returns c = record { opened = opens_as_machine; blank = opens_blank }
