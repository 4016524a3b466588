use Rattle.batch_shards.specs.RowBlocks.{block_of, shared_numbers}
use Rattle.batch_shards.proofs.SharedNumbers.{last_number}
use Rattle.desk.proofs.Moving.{rest_retiring, last_born}
use Rattle.desk.proofs.moves.retire_blocks.Goals as goal

pub loop-block-preserved : goal.loop-block-preserved
loop-block-preserved c =
    rest_retiring _ (shared_numbers c.pop.new.self.items) (block_of c.in-Some.block).number c.args.version
    c.loop-block.pool _ _
    (last_number _ c.pop.new.self.items c.in-Some.block c.in-Some.ensures.items) c.retire.ensures c.loop-block.invariant

pub retire-requires : goal.retire-requires
retire-requires c =
    last_born _ (shared_numbers c.pop.new.self.items) (block_of c.in-Some.block).number c.args.version c.loop-block.pool _
    (last_number _ c.pop.new.self.items c.in-Some.block c.in-Some.ensures.items) c.loop-block.invariant
