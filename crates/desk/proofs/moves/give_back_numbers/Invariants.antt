use Rattle.block_pool.specs.Pools.{marked}
use Rattle.block_reclamation.specs.declared.status.BlockStatus.TheVariants.{Free}
use Rattle.desk.proofs.Moving.{IsMoving}
use Rattle.desk.proofs.moves.give_back_numbers.Given as goal

abbrev pub invariant-loop-number : goal.invariant-loop-number
invariant-loop-number l = IsMoving l.numbers.items Free l.pool (marked l.initial.numbers.items Free l.initial.pool)

abbrev pub decreases-loop-number : goal.decreases-loop-number
decreases-loop-number l = goal.left-loop-number l
