use Rattle.block_pool.specs.Pools.{changed_numbers, retired}
use Rattle.batch_shards.specs.RowBlocks.{shared_numbers}
use Rattle.desk.proofs.Moving.{IsRetiring}
use Rattle.desk.proofs.moves.retire_blocks.Given as goal

abbrev pub invariant-loop-block : goal.invariant-loop-block
invariant-loop-block l =
    IsRetiring (shared_numbers l.blocks.items) l.version l.pool
    (changed_numbers (retired l.version) (shared_numbers l.initial.blocks.items) l.initial.pool)

abbrev pub decreases-loop-block : goal.decreases-loop-block
decreases-loop-block l = goal.left-loop-block l
