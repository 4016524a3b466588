use Rattle.std.proofs.Common.{rules}
use Rattle.graph_types.proofs.texts.Name.as_str.Goals as goal

pub returns : goal.returns
returns c = search rules
