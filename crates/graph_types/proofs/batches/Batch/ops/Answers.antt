use Rattle.std.proofs.Common.{rules}
use Rattle.graph_types.proofs.batches.Batch.ops.Goals as goal

pub returns-clause-ops : goal.returns-clause-ops
returns-clause-ops c = search rules
