use Rattle.std.proofs.{Common.arith, lemmas.Grind.common_steps}
use Rattle.graph_version.proofs.lending.RowIterIterator.next.Goals as goal

-- Their searches are long where they fail.
pub returns-in_default-blocks-clause-steps : goal.returns-in_default-blocks-clause-steps
returns-in_default-blocks-clause-steps c = grind (arith, common_steps)

pub loop-edge-preserved : goal.loop-edge-preserved
loop-edge-preserved c = grind (arith, common_steps)
