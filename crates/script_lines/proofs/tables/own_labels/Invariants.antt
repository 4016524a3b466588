use Rattle.std.{proofs.Common.{◌≡◌, bytes_eq, count_by, take}, specs.Prelude.zip}
use Rattle.graph_levels.specs.Reached.{vertex_numbers}
use Rattle.graph_types.specs.Answer.{names_of_vertices}
use Rattle.script_lines.proofs.tables.own_labels.Given as goal

abbrev pub invariant-loop-vertex : goal.invariant-loop-vertex
invariant-loop-vertex l = l.own
    ≡ count_by (λ entry. bytes_eq entry.0 entry.1)
    (take l.vertex (zip l.names.names (names_of_vertices l.names.names (vertex_numbers l.labels))))
