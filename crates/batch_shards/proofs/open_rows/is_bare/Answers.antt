use Rattle.batch_shards.proofs.open_rows.is_bare.Goals as goal
use Rattle.edge_block.proofs.FreeSlots.{bare_is}

pub returns : goal.returns
returns c = bare_is c.is_empty.result c.args.block.now c.is_empty.ensures
