use Rattle.std.proofs.{Common.arith, lemmas.Grind.common_steps}
use Rattle.graph_version.proofs.rebase.edges_in.Goals as goal

pub loop-source-preserved : goal.loop-source-preserved
loop-source-preserved c = record {
  edges = grind (arith, common_steps);
  stamps = c.in_ok-push_row.ensures.stamps c.loop-source.invariant.stamps;
}
