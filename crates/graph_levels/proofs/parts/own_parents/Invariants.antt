use Rattle.std.{proofs.Common.◌≡◌, specs.List.range_with_len}
use Rattle.graph_levels.proofs.parts.own_parents.Given as goal

abbrev pub invariant-loop-vertex : goal.invariant-loop-vertex
invariant-loop-vertex l = l.parents.items ≡ range_with_len 0 l.vertex
