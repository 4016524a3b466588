use Rattle.std.{proofs.Common.{◌≡◌, ◌++◌, [], take, map, get_or, string_bytes}, specs.List.flat_map}
use Rattle.script_lines.specs.Lines.{number_line}
use Rattle.script_lines.proofs.tables.reached_rows.Given as goal

abbrev pub invariant-loop-row : goal.invariant-loop-row
invariant-loop-row l = string_bytes l.lines ++ l.page.bytes ≡ string_bytes l.initial.lines
    ++ flat_map number_line (map (λ row. (get_or l.names.names row.0.0 [], row.1)) (take l.row-index l.rows))
