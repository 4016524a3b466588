use Rattle.batch_records.proofs.ReadBack.{read_back_all}
use Rattle.batch_records.proofs.laws.law_records_read_back.Goals as goal

pub returns : goal.returns
returns c = read_back_all
