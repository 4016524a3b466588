use Rattle.std.proofs.Common.{rules}
use Rattle.graph_model.proofs.apply.refusal.Goals as goal

-- Its search is long where it fails.
pub returns-in-KindsFull : goal.returns-in-KindsFull
returns-in-KindsFull c = search rules
