use Rattle.std.proofs.Common.{rules}
use Rattle.graph_version.proofs.versions.Version.last_batch.Goals as goal

pub returns-clause-batch : goal.returns-clause-batch
returns-clause-batch c = search rules

pub returns-clause-version : goal.returns-clause-version
returns-clause-version c = rw (← c.self.view_is) c.self.invariant.version
