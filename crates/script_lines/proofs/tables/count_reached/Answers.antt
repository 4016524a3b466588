use mir.Val.{bool_byte}
use Rattle.std.{proofs.Common.{◌+◌, ◌≤◌, ◌∙◌, length, ap, arith}, specs.List.filter_map}
use Rattle.graph_types.specs.Answer.{level_row}
use Rattle.graph_types.proofs.{AnalysisReplies.{reached_more, pairs_all}, Cases.byte_at_most_one}
use Rattle.script_lines.proofs.tables.count_reached.Goals as goal

pub loop-vertex-preserved : goal.loop-vertex-preserved
loop-vertex-preserved c =
    let one : c.from-reached.result ≤ 1 = rw c.from-reached.ensures (byte_at_most_one c.is_some.result) in (
      ap (λ n. c.loop-vertex.reached + n) (c.from-reached.ensures ∙ ap bool_byte c.is_some.ensures)
          ∙ reached_more c.args.names.now.names c.args.levels.now c.loop-vertex.reached c.loop-vertex.vertex _
          c.loop-vertex.invariant.0 (omega (arith, c.loop-vertex-test.true, c.min-count.ensures, c.len.ensures.value)),
      omega (arith, one, c.loop-vertex.invariant.1),
    )

pub returns : goal.returns
returns c =
    c.loop-vertex.invariant.0 ∙ ap (λ rows. length (filter_map level_row rows))
    (pairs_all c.args.names.now.names c.args.levels.now c.loop-vertex.vertex
    (omega (arith, c.loop-vertex.auto.vertex-end, c.loop-vertex-test.false, c.min-count.ensures, c.len.ensures.value)))
