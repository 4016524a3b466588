use Rattle.batch_apply.proofs.Together.{shard_outcomes_at, shard_layout_at}
use Rattle.batch_apply.proofs.laws.law_shard_results.Goals as goal

pub returns : goal.returns
returns c = record { outcomes = shard_outcomes_at; layout = shard_layout_at }
