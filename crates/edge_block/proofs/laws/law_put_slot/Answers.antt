use Rattle.edge_block.proofs.Entries.{stamp_at-put_slot}
use Rattle.edge_block.proofs.laws.law_put_slot.Goals as goal

pub returns : goal.returns
returns c = λ e slots distinct room target. stamp_at-put_slot e slots distinct room target
