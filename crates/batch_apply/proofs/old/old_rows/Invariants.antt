use Rattle.std.proofs.Common.{◌-◌, length}
use Rattle.graph_version.specs.{Rows.row_of, Versions.content}
use Rattle.batch_apply.proofs.OldRows.{AreFound}
use Rattle.batch_apply.proofs.old.old_rows.Given as goal

abbrev pub invariant-loop-source : goal.invariant-loop-source
invariant-loop-source l = AreFound l.time (row_of l.version.rows) l.from.0 l.found.items

abbrev pub decreases-loop-source : goal.decreases-loop-source
decreases-loop-source l = length (content l.version).names - l.from.0
