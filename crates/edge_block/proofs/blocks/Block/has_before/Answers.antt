use Rattle.edge_block.proofs.Expiring.{bounds_tell, bare_tells}
use Rattle.edge_block.proofs.blocks.Block.has_before.Goals as goal

pub returns-in-None : goal.returns-in-None
returns-in-None c = bare_tells c.args.time c.args.self.now.slots c.in-None.ensures

pub returns-in-Some : goal.returns-in-Some
returns-in-Some c = bounds_tell c.args.time c.args.self.now.slots c.in-Some.least c.in-Some.ensures.0
