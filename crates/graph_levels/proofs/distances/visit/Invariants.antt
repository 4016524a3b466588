use Rattle.std.proofs.Common.{◌≡◌, drop, length}
use Rattle.graph_levels.specs.{Reached.AreVertexMarks, Reached.met}
use Rattle.graph_levels.proofs.distances.visit.Given as goal

abbrev pub invariant-loop-target : goal.invariant-loop-target
invariant-loop-target l = record {
  rows : met l.level (drop l.target-index l.targets) l.rows.items ≡ met l.level l.targets l.fn.rows.items;
  marks : AreVertexMarks l.marks l.rows.items;
  long : length l.marks ≡ length l.fn.marks;
}
