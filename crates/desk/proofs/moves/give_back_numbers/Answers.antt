use Rattle.block_reclamation.specs.declared.status.BlockStatus.TheVariants.{Free}
use Rattle.desk.proofs.Moving.{rest_moving, last_used}
use Rattle.desk.proofs.moves.give_back_numbers.Goals as goal

pub loop-number-preserved : goal.loop-number-preserved
loop-number-preserved c =
    rest_moving _ c.pop.new.self.items c.in-Some.number Free c.loop-number.pool _ _ c.in-Some.ensures.items c.give_back.ensures
    c.loop-number.invariant

pub give_back-requires-clause-in_use : goal.give_back-requires-clause-in_use
give_back-requires-clause-in_use c =
    last_used _ c.pop.new.self.items c.in-Some.number Free c.loop-number.pool _ c.in-Some.ensures.items c.loop-number.invariant
