use Rattle.std.proofs.Common.{arith}
use Rattle.edge_block.proofs.Places.{is_free-full}
use Rattle.edge_block.proofs.blocks.Block.is_full.Goals as goal

pub returns : goal.returns
returns c = rw (← c.self.view_is) (is_free-full c.self.inside.live _ _ _ _ (omega arith))
