use Rattle.std.proofs.Common.{take}
use Rattle.graph_version.specs.Ages.{AreSince}
use Rattle.graph_version.proofs.row_page.rows_since.Given as goal

abbrev pub invariant-loop-row : goal.invariant-loop-row
invariant-loop-row l = AreSince l.since (take l.row-index l.rows)
