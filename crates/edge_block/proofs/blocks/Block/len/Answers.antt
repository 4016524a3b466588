use Rattle.std.proofs.Common.{arith}
use Rattle.edge_block.proofs.{Selections.edges_by_ones, KeptColumns.block_of_columns}
use Rattle.edge_block.proofs.blocks.Block.len.Goals as goal

pub returns-clause-count : goal.returns-clause-count
returns-clause-count c = rw (← c.self.view_is)
    (edges_by_ones c.self.inside.live c.self.inside.targets c.self.inside.weights c.self.inside.firsts c.self.inside.recents
    (omega arith))

pub returns-clause-block : goal.returns-clause-block
returns-clause-block c =
    rw (← c.self.view_is) (block_of_columns _ _ _ _ _ _ _ _ c.self.invariant.0)
