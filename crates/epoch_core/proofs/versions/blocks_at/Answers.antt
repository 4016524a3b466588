use Rattle.std.proofs.Common.{rules}
use Rattle.epoch_core.proofs.versions.blocks_at.Goals as goal

-- Its search is long where it fails.
pub returns-in-None : goal.returns-in-None
returns-in-None c = search rules
