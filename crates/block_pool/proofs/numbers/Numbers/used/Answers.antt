use Rattle.std.proofs.Common.{arith}
use Rattle.block_reclamation.proofs.Reclaimed.{partition}
use Rattle.block_pool.{specs.Kept.statuses, proofs.Grants.free_listed}
use Rattle.block_pool.proofs.numbers.Numbers.used.Goals as goal

pub overflow_sub-result-2 : goal.overflow_sub-result-2
overflow_sub-result-2 c =
    let n = c.args.self.now in
    let parts = partition (statuses n) in
    omega (arith, free_listed n c.requires, parts.by_use, c.requires.retired_in)

pub returns : goal.returns
returns c =
    let n = c.args.self.now in
    let parts = partition (statuses n) in
    omega (arith, free_listed n c.requires, parts.by_use, c.requires.retired_in)
