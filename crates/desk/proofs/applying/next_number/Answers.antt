use Rattle.std.proofs.Common.{◌+◌, ap, arith}
use Rattle.desk.proofs.applying.next_number.Goals as goal

-- a version is within its limits, and these are within the walls
pub overflow_add-result : goal.overflow_add-result
overflow_add-result c =
    let is = c.number.ensures.version in
    omega (arith, c.number.ensures.number, is.small.count, is.small.limits.batches)

-- Its search is long where it fails.
pub returns : goal.returns
returns c = ap (λ n. n + 1) c.number.ensures.number
