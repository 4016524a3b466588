use Rattle.edge_block.proofs.Entries.{held_both}
use Rattle.edge_block.proofs.laws.law_absent.Goals as goal

pub returns : goal.returns
returns c = held_both
