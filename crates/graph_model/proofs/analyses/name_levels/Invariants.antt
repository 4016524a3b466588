use Rattle.std.{proofs.Common.{◌≡◌, take, length}, specs.{Prelude.zip, List.filter_map}}
use Rattle.graph_types.specs.Answer.{level_row}
use Rattle.graph_model.proofs.analyses.name_levels.Given as goal

abbrev pub invariant-loop-name : goal.invariant-loop-name
invariant-loop-name l = l.rows.items ≡ filter_map level_row (take (length l.yielded) (zip l.names l.levels))
