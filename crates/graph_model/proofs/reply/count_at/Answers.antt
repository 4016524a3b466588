use Rattle.std.proofs.Common.{rules}
use Rattle.graph_model.proofs.reply.count_at.Goals as goal

-- Its search is long where it fails.
pub returns-else-eq-2 : goal.returns-else-eq-2
returns-else-eq-2 c = search rules
