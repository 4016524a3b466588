use Rattle.batch_apply.proofs.Together.{batch_totals}
use Rattle.batch_apply.proofs.laws.law_batch_totals.Goals as goal

pub returns : goal.returns
returns c = batch_totals
