use Rattle.std.proofs.Common.{rules}
use Rattle.graph_version.proofs.versions.Version.row_blocks.Goals as goal

pub returns-clause-blocks : goal.returns-clause-blocks
returns-clause-blocks c = search rules

pub returns-clause-version : goal.returns-clause-version
returns-clause-version c = rw (← c.self.view_is) c.self.invariant.version
