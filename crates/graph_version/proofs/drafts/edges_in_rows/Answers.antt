use Rattle.std.proofs.{Common.arith, lemmas.Grind.common_steps}
use Rattle.graph_version.proofs.drafts.edges_in_rows.Goals as goal

-- Its search is long where it fails.
pub loop-source-preserved : goal.loop-source-preserved
loop-source-preserved c = grind (arith, common_steps)
