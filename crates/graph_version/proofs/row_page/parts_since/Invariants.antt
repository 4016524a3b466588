use Rattle.std.proofs.Common.{take, All}
use Rattle.graph_version.specs.{Ages.AreSince, Parts.in_part}
use Rattle.graph_version.proofs.row_page.parts_since.Given as goal

abbrev pub invariant-loop-part : goal.invariant-loop-part
invariant-loop-part l = All (λ p. AreSince l.since (in_part p)) (take l.part-index l.parts)
