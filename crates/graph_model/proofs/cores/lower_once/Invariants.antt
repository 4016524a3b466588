use Rattle.graph_types.proofs.Rounds.{IsRound}
use Rattle.graph_model.proofs.cores.lower_once.Given as goal

abbrev pub invariant-loop-vertex : goal.invariant-loop-vertex
invariant-loop-vertex l = IsRound l.fn.numbers l.supports l.numbers l.lowered l.vertex
