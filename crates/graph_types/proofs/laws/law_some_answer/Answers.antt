use Rattle.graph_types.proofs.OneAnswer.{some_answer}
use Rattle.graph_types.proofs.laws.law_some_answer.Goals as goal

pub returns : goal.returns
returns c = λ request content is. some_answer request content is
