use Rattle.std.proofs.Common.{length}
use Rattle.block_pool.specs.Pools.{marked}
use Rattle.block_reclamation.specs.declared.status.BlockStatus.TheVariants.{Used}
use Rattle.desk.proofs.Moving.{IsMoving}
use Rattle.desk.proofs.moves.born_blocks.Given as goal

abbrev pub invariant-loop-rest : goal.invariant-loop-rest
invariant-loop-rest l = IsMoving l.rest (Used l.version) l.pool (marked l.taken (Used l.version) l.initial.pool)

abbrev pub decreases-loop-rest : goal.decreases-loop-rest
decreases-loop-rest l = length l.rest
