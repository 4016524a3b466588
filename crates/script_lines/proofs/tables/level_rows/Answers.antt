use Rattle.std.{proofs.Common.{◌++◌, ◌∙◌, ap, arith, string_bytes}, specs.List.{filter_map, flat_map}}
use Rattle.graph_types.specs.Answer.{level_row}
use Rattle.graph_types.proofs.AnalysisReplies.{pairs_all}
use Rattle.script_lines.{specs.Lines.number_line, proofs.TableRows.level_lines_more}
use Rattle.script_lines.proofs.tables.level_rows.Goals as goal

pub loop-vertex-preserved : goal.loop-vertex-preserved
loop-vertex-preserved c =
    level_lines_more c.args.names.now.names c.args.levels.now (string_bytes c.args.lines.now)
    (string_bytes c.loop-vertex.lines ++ c.loop-vertex.page.bytes) _ c.loop-vertex.vertex _ c.name_at.result.now
    c.name_at.ensures c.loop-vertex.invariant c.in_ok-level_line.ensures
    (omega (arith, c.loop-vertex-test.true, c.min-count.ensures, c.len.ensures.value))

pub returns : goal.returns
returns c =
    c.in_ok-flush.ensures ∙ c.loop-vertex.invariant ∙ ap (λ rows. string_bytes c.args.lines.now ++ flat_map number_line (filter_map level_row rows))
    (pairs_all c.args.names.now.names c.args.levels.now c.loop-vertex.vertex
    (omega (arith, c.loop-vertex.auto.vertex-end, c.loop-vertex-test.false, c.min-count.ensures, c.len.ensures.value)))
