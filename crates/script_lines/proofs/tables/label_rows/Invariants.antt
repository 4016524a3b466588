use Rattle.std.{proofs.Common.{◌≡◌, ◌++◌, take, string_bytes}, specs.{Prelude.zip, List.flat_map}}
use Rattle.graph_levels.specs.Reached.{vertex_numbers}
use Rattle.graph_types.specs.Answer.{names_of_vertices}
use Rattle.script_lines.specs.Lines.{label_line}
use Rattle.script_lines.proofs.tables.label_rows.Given as goal

abbrev pub invariant-loop-vertex : goal.invariant-loop-vertex
invariant-loop-vertex l = string_bytes l.lines ++ l.page.bytes
    ≡ string_bytes l.initial.lines
    ++ flat_map label_line (take l.vertex (zip l.names.names (names_of_vertices l.names.names (vertex_numbers l.labels))))
