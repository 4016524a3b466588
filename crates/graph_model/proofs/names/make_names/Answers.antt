use Rattle.std.proofs.Common.{rules}
use Rattle.graph_model.proofs.names.make_names.Goals as goal

-- Its search is long where it fails.
pub returns-clause-few : goal.returns-clause-few
returns-clause-few c = search rules
