use Rattle.std.proofs.Common.{rules}
use Rattle.epoch_core.proofs.blocks.after_post.Goals as goal

-- Their searches are long where they fail.
pub returns-in-Used : goal.returns-in-Used
returns-in-Used c = search rules

pub returns-in_default-2 : goal.returns-in_default-2
returns-in_default-2 c = search rules
