use Rattle.store_steps.proofs.{Accepting.replay_more, BatchLaws.taken_is_free, BatchLaws.dropped_is_born}
use Rattle.store_steps.proofs.laws.law_journal.Goals as goal

pub returns : goal.returns
returns c = record { appended = replay_more; taken_is_free = taken_is_free; dropped_is_listed = dropped_is_born }
