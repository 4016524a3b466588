use Rattle.std.proofs.Common.{◌≡◌, map, take}
use Rattle.batch_apply.proofs.applied.sources_of.Given as goal

abbrev pub invariant-loop-row : goal.invariant-loop-row
invariant-loop-row l = l.sources.items ≡ map (λ r. r.0) (take l.row-index l.rows)
