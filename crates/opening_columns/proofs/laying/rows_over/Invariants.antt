use Rattle.std.proofs.Common.{◌≤◌, AllPairs, length}
use Rattle.graph_version.specs.Sharing.{block_values}
use Rattle.opening_columns.proofs.RowLists.{AreLaid}
use Rattle.opening_columns.proofs.laying.rows_over.Given as goal

abbrev pub invariant-loop-rest : goal.invariant-loop-rest
invariant-loop-rest l = record {
  laid : AreLaid (block_values l.blocks) (block_values l.rest) l.rows;
  up : AllPairs (λ a b. a.source ≤ b.source) (block_values l.rest);
}

abbrev pub decreases-loop-rest : goal.decreases-loop-rest
decreases-loop-rest l = length l.rest
