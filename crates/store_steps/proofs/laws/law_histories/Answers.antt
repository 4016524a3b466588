use Rattle.store_steps.proofs.Histories.{done_is_run, readers_are_unseen}
use Rattle.store_steps.proofs.laws.law_histories.Goals as goal

pub returns : goal.returns
returns c = record { runs = done_is_run; readers = readers_are_unseen }
