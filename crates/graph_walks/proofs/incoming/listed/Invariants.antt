use Rattle.std.proofs.Common.{◌≡◌, ◌++◌}
use Rattle.graph_version.specs.LentEdges.{edges_to_come}
use Rattle.graph_walks.specs.ByTarget.{edges_of_version}
use Rattle.graph_walks.proofs.incoming.listed.Given as goal

abbrev pub invariant-loop-edge : goal.invariant-loop-edge
invariant-loop-edge l = l.edges.items ++ edges_to_come l.edge-iterator ≡ edges_of_version l.version
