use Rattle.graph_version.proofs.Rebased.{AreCopied}
use Rattle.graph_version.proofs.rebase.copy_each.Given as goal

abbrev pub invariant-loop-place : goal.invariant-loop-place
invariant-loop-place l = AreCopied l.held l.fn.blocks l.place l.blocks
