use Rattle.edge_block.proofs.GraphLaws.{batch_layout}
use Rattle.edge_block.proofs.layout_laws.law_batch_layout.Goals as goal

pub returns : goal.returns
returns c = batch_layout
