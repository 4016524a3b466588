use Rattle.graph_types.proofs.OneAnswer.{one_answer}
use Rattle.graph_types.proofs.laws.law_one_answer.Goals as goal

pub returns : goal.returns
returns c = λ request g x y a b. one_answer request g x y a b
