use Rattle.block_pool.specs.Pools.{marked}
use Rattle.block_reclamation.specs.declared.status.BlockStatus.TheVariants.{Free}
use Rattle.batch_shards.specs.RowBlocks.{shared_numbers}
use Rattle.desk.proofs.Moving.{IsMoving}
use Rattle.desk.proofs.moves.give_back_blocks.Given as goal

abbrev pub invariant-loop-block : goal.invariant-loop-block
invariant-loop-block l = IsMoving (shared_numbers l.blocks.items) Free l.pool
    (marked (shared_numbers l.initial.blocks.items) Free l.initial.pool)

abbrev pub decreases-loop-block : goal.decreases-loop-block
decreases-loop-block l = goal.left-loop-block l
