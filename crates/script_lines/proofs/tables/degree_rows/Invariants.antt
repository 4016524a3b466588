use Rattle.std.{proofs.Common.{◌≡◌, ◌++◌, take, string_bytes}, specs.{Prelude.zip, List.flat_map}}
use Rattle.script_lines.specs.Lines.{degree_line}
use Rattle.script_lines.proofs.tables.degree_rows.Given as goal

abbrev pub invariant-loop-vertex : goal.invariant-loop-vertex
invariant-loop-vertex l = string_bytes l.lines ++ l.page.bytes
    ≡ string_bytes l.initial.lines ++ flat_map degree_line (take l.vertex (zip l.names.names l.degrees))
