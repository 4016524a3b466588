use Rattle.std.proofs.Common.{◌<◌, ◌++◌, ◌∙◌, [], length, min, arith, string_bytes}
use Rattle.graph_levels.specs.Reached.{vertex_numbers}
use Rattle.graph_types.specs.Answer.{names_of_vertices}
use Rattle.graph_types.proofs.TableSums.{lines_more, lines_all}
use Rattle.graph_levels.proofs.LabelRows.{length-labels, label_at}
use Rattle.script_lines.specs.Lines.{label_line}
use Rattle.script_lines.proofs.tables.label_rows.Goals as goal

pub loop-vertex-preserved : goal.loop-vertex-preserved
loop-vertex-preserved c =
    let names = c.args.names.now.names in
    let labels = c.args.labels.now in
    let k = c.loop-vertex.vertex in
    let within : k < min (length names) (length labels) =
    omega (arith, c.loop-vertex-test.true, c.min-count.ensures, c.len.ensures.value) in
    lines_more names (names_of_vertices names (vertex_numbers labels)) label_line (string_bytes c.args.lines.now)
    (string_bytes c.loop-vertex.lines ++ c.loop-vertex.page.bytes) _ k c.name_at-name.result.now [] c.name_at.result.now
    c.loop-vertex.invariant c.in_ok-label_line.ensures (omega (arith, length-labels names labels)) c.name_at-name.ensures
    (label_at names labels k _ c.name_at.result.now (omega arith) c.name_at.ensures)

pub returns : goal.returns
returns c =
    let names = c.args.names.now.names in
    let labels = c.args.labels.now in
    let long = length-labels names labels in
    c.in_ok-flush.ensures ∙ lines_all names (names_of_vertices names (vertex_numbers labels)) label_line (string_bytes c.args.lines.now)
    (string_bytes c.loop-vertex.lines ++ c.loop-vertex.page.bytes) c.loop-vertex.vertex c.loop-vertex.invariant
    (omega (arith, c.loop-vertex.auto.vertex-end, c.loop-vertex-test.false, c.min-count.ensures, c.len.ensures.value))
