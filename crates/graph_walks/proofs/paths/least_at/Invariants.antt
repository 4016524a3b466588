use Rattle.std.proofs.Common.{take}
use Rattle.graph_walks.specs.Paths.{IsLeastAt}
use Rattle.graph_walks.proofs.paths.least_at.Given as goal

abbrev pub invariant-loop-vertex : goal.invariant-loop-vertex
invariant-loop-vertex l = IsLeastAt l.levels l.level (take l.vertex-index l.vertices) l.least
