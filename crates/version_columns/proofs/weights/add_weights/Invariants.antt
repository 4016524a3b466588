use Rattle.graph_version.specs.LentEdges.{edges_to_come}
use Rattle.graph_walks.specs.ByTarget.{edges_of_version}
use Rattle.version_columns.proofs.WeightSums.{AreAdded}
use Rattle.version_columns.proofs.weights.add_weights.Given as goal

abbrev pub invariant-loop-edge : goal.invariant-loop-edge
invariant-loop-edge l = AreAdded l.view (edges_of_version l.version) (edges_to_come l.edge-iterator) l.weights
