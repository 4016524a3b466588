use Rattle.std.proofs.Common.{rules}
use Rattle.graph_model.proofs.apply.plain_apply_in.Goals as goal

-- Their searches are long where they fail.

pub returns-in-Err-clause-content : goal.returns-in-Err-clause-content
returns-in-Err-clause-content c = search rules

pub returns-in-Err-clause-unchanged : goal.returns-in-Err-clause-unchanged
returns-in-Err-clause-unchanged c = search rules
