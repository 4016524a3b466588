use Rattle.std.proofs.Common.{sym, rules}
use Rattle.edge_block.proofs.OldSlots.{none_old}
use Rattle.batch_shards.specs.RowBlocks.{block_of}
use Rattle.batch_shards.proofs.row_blocks.RowBlock.expire.Goals as goal

pub returns-then-not-has_before-clause-count : goal.returns-then-not-has_before-clause-count
returns-then-not-has_before-clause-count c =
    sym (none_old c.args.time (block_of c.args.self.now.block).slots (search rules))
