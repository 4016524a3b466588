use Rattle.std.proofs.Common.{◌≡◌, take}
use Rattle.block_pool.specs.Pools.{marked}
use Rattle.block_reclamation.specs.declared.status.BlockStatus.TheVariants.{Used}
use Rattle.opening_columns.proofs.pooling.born_first.Given as goal

abbrev pub invariant-loop-number : goal.invariant-loop-number
invariant-loop-number l = l.pool ≡ marked (take l.number-index l.numbers) (Used 0) l.fn.pool
