use Rattle.std.proofs.Common.{◌≡◌, [], take, map, get_or}
use Rattle.version_answers.proofs.naming.name_reached.Given as goal

abbrev pub invariant-loop-row : goal.invariant-loop-row
invariant-loop-row l = l.named.items ≡ map (λ row. (get_or l.names.names row.0.0 [], row.1)) (take l.row-index l.rows)
