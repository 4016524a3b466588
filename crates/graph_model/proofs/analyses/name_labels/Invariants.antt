use Rattle.std.{proofs.Common.{◌≡◌, take, length}, specs.Prelude.zip}
use Rattle.graph_types.specs.Answer.{names_of_vertices}
use Rattle.graph_model.proofs.analyses.name_labels.Given as goal

abbrev pub invariant-loop-name : goal.invariant-loop-name
invariant-loop-name l = l.rows.items ≡ take (length l.yielded) (zip l.names (names_of_vertices l.names l.labels))
