use Rattle.std.{proofs.Common.◌≡◌, specs.List.range_with_len}
use Rattle.graph_model.proofs.walks.vertices.Given as goal

abbrev pub invariant-loop-vertex : goal.invariant-loop-vertex
invariant-loop-vertex l = l.vertices.items ≡ range_with_len 0 l.vertex
