use Rattle.std.proofs.Common.{◌≤◌, ◌^◌, length}
use Rattle.graph_version.specs.{Differences.DifferAt, RowHalls.in_halls, RowHalls.AreHalls}
use Rattle.graph_version.proofs.rows.take_over.Given as goal

abbrev pub invariant-loop-rest : goal.invariant-loop-rest
invariant-loop-rest l = record {
  differ : DifferAt l.rest (in_halls l.halls.items) l.from;
  halls : AreHalls l.halls.items;
  few : length l.halls.items ≤ 2 ^ 16;
}

abbrev pub decreases-loop-rest : goal.decreases-loop-rest
decreases-loop-rest l = length l.rest
