use Rattle.edge_block.proofs.Entries.{entry_stands, standing_entry}
use Rattle.edge_block.proofs.laws.law_entries.Goals as goal

pub returns : goal.returns
returns c = λ b distinct key stamp. (entry_stands b distinct key stamp, standing_entry b key stamp)
