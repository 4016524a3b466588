use Rattle.edge_block.proofs.ListedRows.{listed_once}
use Rattle.edge_block.proofs.layout_laws.law_listed_once.Goals as goal

pub returns : goal.returns
returns c = listed_once
