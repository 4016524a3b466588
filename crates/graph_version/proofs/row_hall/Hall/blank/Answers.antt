use Rattle.std.proofs.Common.{ap}
use Rattle.graph_version.specs.RowGroups.{filled}
use Rattle.graph_version.proofs.row_hall.Hall.blank.Goals as goal

pub returns : goal.returns
returns c = ap filled c.new.ensures.items
