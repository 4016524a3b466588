use Rattle.std.proofs.Common.{rules}
use Rattle.graph_levels.proofs.versions.labels.Goals as goal

pub returns : goal.returns
returns c = search rules
