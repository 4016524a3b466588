use Rattle.owned_desk.specs.Touched.{AreTouchedBelow}
use Rattle.owned_desk.proofs.touched.push_since.Given as goal

abbrev pub invariant-loop-source : goal.invariant-loop-source
invariant-loop-source l = AreTouchedBelow l.source l.number l.numbers l.sources.items
