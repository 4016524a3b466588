use Rattle.std.{proofs.Common.{◌≡◌, ◌≤◌, length, take}, specs.{Prelude.zip, List.filter_map}}
use Rattle.graph_types.specs.Answer.{level_row}
use Rattle.script_lines.proofs.tables.count_reached.Given as goal

abbrev pub invariant-loop-vertex : goal.invariant-loop-vertex
invariant-loop-vertex l =
    (l.reached ≡ length (filter_map level_row (take l.vertex (zip l.names.names l.levels)))) × (l.reached ≤ l.vertex)
