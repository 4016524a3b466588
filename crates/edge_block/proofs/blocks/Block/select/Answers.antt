use Rattle.edge_block.proofs.blocks.Block.select.Goals as goal

pub returns-clause-lends : goal.returns-clause-lends
returns-clause-lends c = c.places_of.ensures.lends

pub returns-clause-few : goal.returns-clause-few
returns-clause-few c = rw (returns-clause-lends c) c.places_of.ensures.few

pub returns-clause-in_range : goal.returns-clause-in_range
returns-clause-in_range c = rw (returns-clause-lends c) c.places_of.ensures.in_range

pub returns-clause-block : goal.returns-clause-block
returns-clause-block c = c.places_of.ensures.block
