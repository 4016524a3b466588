use Rattle.store_steps.proofs.Dated.{desk_dated}
use Rattle.store_steps.proofs.laws.law_dated.Goals as goal

pub returns : goal.returns
returns c = desk_dated
