use Rattle.std.proofs.Common.{rules}
use Rattle.graph_types.proofs.lists.List.as_slice.Goals as goal

-- Its search is long where it fails.
pub returns : goal.returns
returns g c = search rules
