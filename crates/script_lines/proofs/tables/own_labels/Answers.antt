use Rattle.std.proofs.Common.{◌+◌, ◌∙◌, ap, arith, bytes_eq, count_by}
use Rattle.graph_levels.specs.Reached.{vertex_numbers}
use Rattle.graph_types.specs.Answer.{names_of_vertices}
use Rattle.graph_types.proofs.AnalysisReplies.{pairs_all}
use Rattle.graph_levels.proofs.LabelRows.{own_more, length-labels}
use Rattle.script_lines.proofs.tables.own_labels.Goals as goal

pub loop-vertex-preserved : goal.loop-vertex-preserved
loop-vertex-preserved c =
    ap (λ n. c.loop-vertex.own + n) c.from-own.ensures
    ∙ own_more c.args.names.now c.args.labels.now c.loop-vertex.own c.loop-vertex.vertex _ c.len.ensures.book
    c.loop-vertex.invariant (omega (arith, c.loop-vertex-test.true, c.min-count.ensures, c.len.ensures.value))

pub returns : goal.returns
returns c =
    let names = c.args.names.now.names in
    let labels = c.args.labels.now in
    let long = length-labels names labels in
    c.loop-vertex.invariant ∙ ap (count_by (λ entry. bytes_eq entry.0 entry.1))
    (pairs_all names (names_of_vertices names (vertex_numbers labels)) c.loop-vertex.vertex
    (omega (arith, c.loop-vertex.auto.vertex-end, c.loop-vertex-test.false, c.min-count.ensures, c.len.ensures.value)))
