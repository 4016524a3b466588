use Rattle.std.proofs.Common.{rules}
use Rattle.graph_types.proofs.batches.Batch.len.Goals as goal

-- Their searches are long where they fail.

pub returns-clause-count : goal.returns-clause-count
returns-clause-count c = search rules

pub returns-clause-batch : goal.returns-clause-batch
returns-clause-batch c = search rules
