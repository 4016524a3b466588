use Rattle.epoch_core.proofs.Account.{replies_are_answers, replies_alike}
use Rattle.epoch_core.proofs.laws.law_isolation.Goals as goal

pub returns : goal.returns
returns c = record { answers = replies_are_answers; two_worlds = replies_alike }
