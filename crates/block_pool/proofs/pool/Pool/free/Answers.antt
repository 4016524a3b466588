use Rattle.std.proofs.Common.{rules}
use Rattle.block_pool.proofs.pool.Pool.free.Goals as goal

pub returns-clause-count : goal.returns-clause-count
returns-clause-count c = search rules
