use Rattle.edge_block.proofs.Entries.{stamp_at-take_slot}
use Rattle.edge_block.proofs.laws.law_take_slot.Goals as goal

pub returns : goal.returns
returns c = λ taken slots distinct target. stamp_at-take_slot taken slots distinct target
