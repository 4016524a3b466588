use Rattle.std.proofs.Common.{length}
use Rattle.opening_columns.proofs.RunLists.{AreSoFar}
use Rattle.opening_columns.proofs.filling.run_lengths.Given as goal

abbrev pub invariant-loop-rest : goal.invariant-loop-rest
invariant-loop-rest l = AreSoFar l.edges l.rest l.lengths.items

abbrev pub decreases-loop-rest : goal.decreases-loop-rest
decreases-loop-rest l = length l.rest
