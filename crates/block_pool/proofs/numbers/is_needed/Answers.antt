use Rattle.std.proofs.Common.{arith}
use Rattle.std.proofs.lemmas.Bool.Decides.{nat_tests}
use Rattle.block_reclamation.proofs.Reclaimed.{floor_spares}
use Rattle.block_pool.proofs.numbers.is_needed.Goals as goal

pub returns-else-floor-dates : goal.returns-else-floor-dates
returns-else-floor-dates c =
    let spared = floor_spares c.args.copy.now c.args.dates.birth c.args.dates.retirement (omega (arith, c.requires, c.if-floor-dates.false)) in
    grind (arith, nat_tests, spared, c.if-floor-dates.false)
