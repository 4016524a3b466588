use Rattle.std.{proofs.Common.{◌≡◌, take}, specs.Prelude.zip}
use Rattle.graph_types.specs.Answer.{names_of_vertices}
use Rattle.graph_levels.specs.Reached.{vertex_numbers}
use Rattle.version_answers.proofs.naming.name_labels.Given as goal

abbrev pub invariant-loop-vertex : goal.invariant-loop-vertex
invariant-loop-vertex l = l.rows.items ≡ take l.vertex (zip l.names.names (names_of_vertices l.names.names (vertex_numbers l.labels)))
