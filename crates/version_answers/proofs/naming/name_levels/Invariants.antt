use Rattle.std.{proofs.Common.{◌≡◌, take}, specs.{Prelude.zip, List.filter_map}}
use Rattle.graph_types.specs.Answer.{level_row}
use Rattle.version_answers.proofs.naming.name_levels.Given as goal

abbrev pub invariant-loop-vertex : goal.invariant-loop-vertex
invariant-loop-vertex l = l.rows.items ≡ filter_map level_row (take l.vertex (zip l.names.names l.levels))
