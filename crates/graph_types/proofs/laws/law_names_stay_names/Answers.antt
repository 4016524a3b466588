use Rattle.graph_types.proofs.NamesKept.{HasNames-left_by}
use Rattle.graph_types.proofs.laws.law_names_stay_names.Goals as goal

pub returns : goal.returns
returns c = λ batches g valid has. HasNames-left_by batches g valid has
