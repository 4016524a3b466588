use Rattle.std.proofs.Common.{◌∙◌, ap, arith}
use Rattle.graph_types.proofs.AnalysisReplies.{pairs_all}
use Rattle.script_lines.{specs.Lines.greatest, proofs.TableRows.greatest_more}
use Rattle.script_lines.proofs.tables.greatest.Goals as goal

pub loop-vertex-preserved : goal.loop-vertex-preserved
loop-vertex-preserved c =
    c.max-most.ensures ∙ greatest_more c.args.names.now.names c.args.numbers.now c.loop-vertex.most c.loop-vertex.vertex
    c.loop-vertex.invariant (omega (arith, c.loop-vertex-test.true, c.min-count.ensures, c.len.ensures.value))

pub returns : goal.returns
returns c =
    c.loop-vertex.invariant ∙ ap greatest
    (pairs_all c.args.names.now.names c.args.numbers.now c.loop-vertex.vertex
    (omega (arith, c.loop-vertex.auto.vertex-end, c.loop-vertex-test.false, c.min-count.ensures, c.len.ensures.value)))
