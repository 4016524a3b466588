use Rattle.std.proofs.Common.{subst}
use Rattle.graph_types.specs.{Answer.IsAnswer, Graph.unlimited, Limits.standard_limits}
use Rattle.graph_types.proofs.{OneAnswer.one_answer, LimitsKept.same_answer}
use Rattle.stream_store.specs.Seats.{held_graph}
use Rattle.stream_store.proofs.laws.law_equal_answers.Goals as goal

pub returns : goal.returns
returns c = λ here there request x y same is other. one_answer request (unlimited (held_graph there)) x y
    (subst (λ g. IsAnswer request g x) same (same_answer request (held_graph here) standard_limits x is))
    (same_answer request (held_graph there) standard_limits y other)
