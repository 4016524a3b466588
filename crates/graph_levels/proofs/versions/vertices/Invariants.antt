use Rattle.std.proofs.Common.{◌≡◌, take}
use Rattle.graph_levels.specs.Reached.{vertex_numbers}
use Rattle.graph_levels.proofs.versions.vertices.Given as goal

abbrev pub invariant-loop-number : goal.invariant-loop-number
invariant-loop-number l = vertex_numbers l.vertices.items ≡ take l.number-index l.numbers
