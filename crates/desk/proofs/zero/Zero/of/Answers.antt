use Rattle.desk.proofs.Zeros.{opens_with}
use Rattle.desk.proofs.zero.Zero.of.Goals as goal

pub returns-clause-opens : goal.returns-clause-opens
returns-clause-opens c = λ blocks is pool. opens_with blocks _ c.args.version c.in_ok-new.ensures.ok is c.of-numbers.ensures pool
