use Rattle.std.{proofs.Common.{◌≡◌, take, length}, specs.Prelude.zip}
use Rattle.graph_model.proofs.analyses.name_rows.Given as goal

abbrev pub invariant-loop-name : goal.invariant-loop-name
invariant-loop-name g l = l.rows.items ≡ take (length l.yielded) (zip l.names l.values)
