use Rattle.store_steps.proofs.Merges.{merge}
use Rattle.store_steps.proofs.laws.law_merges.Goals as goal

pub returns : goal.returns
returns c = merge
