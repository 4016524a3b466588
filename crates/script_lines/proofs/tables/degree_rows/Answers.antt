use Rattle.std.proofs.Common.{◌++◌, ◌∙◌, [], arith, string_bytes}
use Rattle.graph_types.proofs.TableSums.{value_lines_more, lines_all}
use Rattle.script_lines.specs.Lines.{degree_line}
use Rattle.script_lines.proofs.tables.degree_rows.Goals as goal

pub loop-vertex-preserved : goal.loop-vertex-preserved
loop-vertex-preserved c =
    value_lines_more c.args.names.now.names c.args.degrees.now degree_line (string_bytes c.args.lines.now)
    (string_bytes c.loop-vertex.lines ++ c.loop-vertex.page.bytes) _ c.loop-vertex.vertex _ [] _ c.loop-vertex.invariant
    c.in_ok-degree_line.ensures (omega (arith, c.loop-vertex-test.true, c.min-count.ensures, c.len.ensures.value))
    c.name_at.ensures

pub returns : goal.returns
returns c =
    c.in_ok-flush.ensures ∙ lines_all c.args.names.now.names c.args.degrees.now degree_line (string_bytes c.args.lines.now)
    (string_bytes c.loop-vertex.lines ++ c.loop-vertex.page.bytes) c.loop-vertex.vertex c.loop-vertex.invariant
    (omega (arith, c.loop-vertex.auto.vertex-end, c.loop-vertex-test.false, c.min-count.ensures, c.len.ensures.value))
