use Rattle.std.proofs.{Common.arith, lemmas.Grind.common_steps}
use Rattle.graph_version.proofs.rebase.push_row.Goals as goal

pub loop-block-preserved : goal.loop-block-preserved
loop-block-preserved c = record {
  edges = grind (arith, common_steps);
  stamps = λ all. c.in_ok-push_edges.ensures.stamps (c.loop-block.invariant.stamps all);
}
