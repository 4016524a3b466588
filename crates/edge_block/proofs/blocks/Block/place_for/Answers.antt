use Rattle.std.proofs.Common.{arith}
use Rattle.edge_block.proofs.Places.{put_over, put_into}
use Rattle.edge_block.proofs.blocks.Block.place_for.Goals as goal

pub returns-in-Some-clause-puts : goal.returns-in-Some-clause-puts
returns-in-Some-clause-puts c =
    let found = rw c.in-Some.is at c.find_target.ensures in
    rw (← c.self.view_is)
    (put_over c.self.inside.live c.self.inside.targets c.self.inside.weights c.self.inside.firsts c.self.inside.recents
    c.args.target c.in-Some.place c.self.told.0 found.0 found.1)

pub returns-in-None-clause-within : goal.returns-in-None-clause-within
returns-in-None-clause-within c =
    rw c.trailing_ones.ensures
    (put_into c.self.inside.live c.self.inside.targets c.self.inside.weights c.self.inside.firsts c.self.inside.recents
    c.args.target c.self.told.0 (omega arith)
    (rw c.in-None.is at c.find_target.ensures) (rw (← c.self.view_is) at c.requires)).0

pub returns-in-None-clause-puts : goal.returns-in-None-clause-puts
returns-in-None-clause-puts c =
    rw (c.trailing_ones.ensures, ← c.self.view_is)
    (put_into c.self.inside.live c.self.inside.targets c.self.inside.weights c.self.inside.firsts c.self.inside.recents
    c.args.target c.self.told.0 (omega arith)
    (rw c.in-None.is at c.find_target.ensures) (rw (← c.self.view_is) at c.requires)).1
