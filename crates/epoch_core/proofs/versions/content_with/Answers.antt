use Rattle.std.proofs.Common.{rules}
use Rattle.epoch_core.proofs.versions.content_with.Goals as goal

-- Its search is long where it fails.
pub returns-in-Some : goal.returns-in-Some
returns-in-Some c = search rules
