use Rattle.edge_block.proofs.ShardLaws.{shard_outcomes}
use Rattle.edge_block.proofs.layout_laws.law_shard_outcomes.Goals as goal

pub returns : goal.returns
returns c = λ workers w most ops names kinds rows sources own. shard_outcomes workers w most ops names kinds rows sources own
