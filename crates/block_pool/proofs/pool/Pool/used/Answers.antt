use Rattle.std.proofs.Common.{rules}
use Rattle.block_reclamation.proofs.Reclaimed.{partition}
use Rattle.block_pool.proofs.pool.Pool.used.Goals as goal

pub returns-clause-count : goal.returns-clause-count
returns-clause-count c = search rules

pub returns-clause-all : goal.returns-clause-all
returns-clause-all c = let parts = partition c.args.self.now in parts.by_use
