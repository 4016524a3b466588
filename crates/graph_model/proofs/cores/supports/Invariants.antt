use Rattle.graph_model.proofs.Rounds.{IsCount}
use Rattle.graph_model.proofs.cores.supports.Given as goal

abbrev pub invariant-loop-link : goal.invariant-loop-link
invariant-loop-link l = IsCount l.links l.numbers l.supports.items l.link-index
