use Rattle.graph_version.specs.Sharing.{block_values}
use Rattle.graph_version.proofs.Rebased.{AreSoFar}
use Rattle.graph_version.proofs.rebase.rows_over.Given as goal

abbrev pub invariant-loop-place : goal.invariant-loop-place
invariant-loop-place l = AreSoFar l.rows (block_values l.blocks) l.place l.copy (block_values l.left)
