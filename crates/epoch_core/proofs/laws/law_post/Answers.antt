use Rattle.epoch_core.proofs.PostRule.{posts_by_rule}
use Rattle.epoch_core.proofs.laws.law_post.Goals as goal

pub returns : goal.returns
returns c = posts_by_rule
