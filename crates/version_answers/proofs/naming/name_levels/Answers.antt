use Rattle.std.{proofs.Common.{◌<◌, ◌∙◌, length, ap, arith}, specs.List.filter_map}
use Rattle.graph_types.specs.Answer.{level_row}
use Rattle.graph_types.proofs.AnalysisReplies.{named_levels_more, pairs_all}
use Rattle.version_answers.proofs.naming.name_levels.Goals as goal

pub loop-vertex-preserved : goal.loop-vertex-preserved
loop-vertex-preserved c =
    let names = c.args.names.now.names in
    let levels = c.args.levels.now in
    let k = c.loop-vertex.vertex in
    let left : k < length names = omega (arith, c.loop-vertex-test.true, c.min-count.ensures, c.len.ensures.value) in
    let right : k < length levels = omega (arith, c.loop-vertex-test.true, c.min-count.ensures) in
    named_levels_more names levels c.loop-vertex.rows.items c.push_level.new.rows.items k _ c.loop-vertex.invariant
    c.in_ok-push_level.ensures left right

pub returns : goal.returns
returns c =
    c.loop-vertex.invariant ∙ ap (filter_map level_row)
    (pairs_all c.args.names.now.names c.args.levels.now c.loop-vertex.vertex
    (omega (arith, c.loop-vertex.auto.vertex-end, c.loop-vertex-test.false, c.min-count.ensures, c.len.ensures.value)))
