use Rattle.edge_block.proofs.GraphLaws.{expiry_layout}
use Rattle.edge_block.proofs.layout_laws.law_expiry_layout.Goals as goal

pub returns : goal.returns
returns c = expiry_layout
