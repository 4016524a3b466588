use Rattle.std.proofs.Common.{take}
use Rattle.batch_shards.proofs.{RowSteps.at_edge, Noting.IsFirstOf}
use Rattle.batch_shards.proofs.rows.first_place.Given as goal

abbrev pub invariant-loop-place : goal.invariant-loop-place
invariant-loop-place l = IsFirstOf (at_edge l.kind.0 l.target) l.row (take l.place-index l.places) l.first
