use Rattle.edge_block.proofs.Places.{live_at, slot_live}
use Rattle.edge_block.proofs.blocks.Block.edge_at.Goals as goal

pub returns-clause-edge : goal.returns-clause-edge
returns-clause-edge c = rw (← c.self.view_is)
    (slot_live c.self.inside.live c.self.inside.targets c.self.inside.weights c.self.inside.firsts c.self.inside.recents
    c.args.place _ c.requires.within
    (live_at c.self.inside.live c.self.inside.targets c.self.inside.weights c.self.inside.firsts c.self.inside.recents
    c.args.place (rw (← c.self.view_is) at c.requires.has_edge)).1)
