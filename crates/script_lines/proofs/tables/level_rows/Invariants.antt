use Rattle.std.{proofs.Common.{◌≡◌, ◌++◌, take, string_bytes}, specs.{Prelude.zip, List.{filter_map, flat_map}}}
use Rattle.graph_types.specs.Answer.{level_row}
use Rattle.script_lines.specs.Lines.{number_line}
use Rattle.script_lines.proofs.tables.level_rows.Given as goal

abbrev pub invariant-loop-vertex : goal.invariant-loop-vertex
invariant-loop-vertex l = string_bytes l.lines ++ l.page.bytes
    ≡ string_bytes l.initial.lines ++ flat_map number_line (filter_map level_row (take l.vertex (zip l.names.names l.levels)))
