use Rattle.std.proofs.{Common.arith, lemmas.Grind.common_steps}
use Rattle.graph_version.proofs.Rebased.{lent_edges}
use Rattle.graph_version.proofs.edges.EdgeIterIterator.next.Goals as goal

pub loop-edge-preserved : goal.loop-edge-preserved
loop-edge-preserved c =
    let block = lent_edges c.in_ok-block.block.now in
    grind (arith, common_steps, block)
