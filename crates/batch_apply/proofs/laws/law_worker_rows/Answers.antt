use Rattle.batch_apply.proofs.Totals.{worker_rows}
use Rattle.batch_apply.proofs.laws.law_worker_rows.Goals as goal

pub returns : goal.returns
returns c = worker_rows
