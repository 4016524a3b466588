use Rattle.graph_types.proofs.Rounds.{IsArcRound}
use Rattle.graph_model.proofs.settling.lower_once.Given as goal

abbrev pub invariant-loop-arc : goal.invariant-loop-arc
invariant-loop-arc l = IsArcRound l.arcs l.step l.fn.numbers l.numbers l.lowered l.arc-index
