use Rattle.std.proofs.Common.{◌*◌}
use Rattle.owned_desk.specs.Touched.{AreTouchedBelow}
use Rattle.owned_desk.proofs.touched.Touched.since.Given as goal

abbrev pub invariant-loop-group : goal.invariant-loop-group
invariant-loop-group l = AreTouchedBelow (l.group * 64) l.number l.self l.sources.items
