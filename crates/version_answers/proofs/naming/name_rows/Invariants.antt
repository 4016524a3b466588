use Rattle.std.{proofs.Common.{◌≡◌, take}, specs.Prelude.zip}
use Rattle.version_answers.proofs.naming.name_rows.Given as goal

abbrev pub invariant-loop-vertex : goal.invariant-loop-vertex
invariant-loop-vertex g l = l.rows.items ≡ take l.vertex (zip l.names.names l.values)
