use Rattle.std.proofs.Common.{arith}
use Rattle.edge_block.proofs.Selections.{empty_by_word}
use Rattle.edge_block.proofs.blocks.Block.is_empty.Goals as goal

pub returns : goal.returns
returns c =
    rw (← c.self.view_is)
    (empty_by_word c.self.inside.live c.self.inside.targets c.self.inside.weights c.self.inside.firsts c.self.inside.recents
    (omega arith))
