use Rattle.graph_version.specs.Rows.{row_of}
use Rattle.batch_shards.proofs.Beginnings.{own_blocks}
use Rattle.batch_shards.proofs.shard.blocks_at.Goals as goal

pub returns-clause-own : goal.returns-clause-own
returns-clause-own c =
    own_blocks c.row_blocks.result.now (row_of c.args.version.now.rows c.args.source.0) c.args.source.0 c.row_blocks.ensures.blocks
    (c.row_blocks.ensures.version.rows.blocks c.args.source.0)
