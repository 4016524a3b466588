use Rattle.std.proofs.Common.{◌<◌, ◌∙◌, [], length, arith}
use Rattle.graph_types.specs.Answer.{names_of_vertices}
use Rattle.graph_types.proofs.AnalysisReplies.{pairs_more, pairs_all}
use Rattle.graph_levels.specs.Reached.{vertex_numbers}
use Rattle.graph_levels.proofs.LabelRows.{length-labels, label_at}
use Rattle.version_answers.proofs.naming.name_labels.Goals as goal

pub loop-vertex-preserved : goal.loop-vertex-preserved
loop-vertex-preserved c =
    let names = c.args.names.now.names in
    let labels = c.args.labels.now in
    let k = c.loop-vertex.vertex in
    let left : k < length names = omega (arith, c.loop-vertex-test.true, c.min-count.ensures, c.len.ensures.value) in
    let right : k < length labels = omega (arith, c.loop-vertex-test.true, c.min-count.ensures) in
    let all : k < length (names_of_vertices names (vertex_numbers labels)) = omega (arith, right, length-labels names labels) in
    c.in_ok-push.ensures.items
    ∙ pairs_more names (names_of_vertices names (vertex_numbers labels)) c.loop-vertex.rows.items k c.in_ok-name.name []
    c.in_ok-label.label
    c.loop-vertex.invariant left all c.in_ok-name.ensures
    (label_at names labels k _ c.in_ok-label.label right c.in_ok-label.ensures)

pub returns : goal.returns
returns c =
    let names = c.args.names.now.names in
    let labels = c.args.labels.now in
    c.loop-vertex.invariant ∙ pairs_all names (names_of_vertices names (vertex_numbers labels)) c.loop-vertex.vertex
    (omega (
      arith,
      c.loop-vertex.auto.vertex-end,
      c.loop-vertex-test.false,
      c.min-count.ensures,
      c.len.ensures.value,
      length-labels names labels,
    ))
