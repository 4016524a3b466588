use Rattle.std.proofs.Common.{◌<◌, ◌∙◌, [], length, arith}
use Rattle.graph_types.proofs.AnalysisReplies.{pairs_more, pairs_all}
use Rattle.version_answers.proofs.naming.name_rows.Goals as goal

pub loop-vertex-preserved : goal.loop-vertex-preserved
loop-vertex-preserved g c =
    let names = c.args.names.now.names in
    let values = c.args.values.now in
    let k = c.loop-vertex.vertex in
    let left : k < length names = omega (arith, c.loop-vertex-test.true, c.min-count.ensures, c.len.ensures.value) in
    let right : k < length values = omega (arith, c.loop-vertex-test.true, c.min-count.ensures) in
    c.in_ok-push.ensures.items
    ∙ pairs_more names values c.loop-vertex.rows.items k c.in_ok-name_at.field-0 [] c.index-values-vertex.result
    c.loop-vertex.invariant left right c.in_ok-name_at.ensures c.index-values-vertex.is

pub returns : goal.returns
returns g c =
    c.loop-vertex.invariant ∙ pairs_all c.args.names.now.names c.args.values.now c.loop-vertex.vertex
    (omega (arith, c.loop-vertex.auto.vertex-end, c.loop-vertex-test.false, c.min-count.ensures, c.len.ensures.value))
