use Rattle.std.proofs.Common.{◌≤◌, ◌-◌, length}
use Rattle.vertex_names.specs.Order.{Bounds, firsts}
use Rattle.vertex_names.proofs.piece.last_between.Given as goal

abbrev pub invariant-loop-end : goal.invariant-loop-end
invariant-loop-end g l = record { bounds : Bounds (firsts l.pairs) l.hash l.at l.end; within : l.end ≤ length l.pairs }

abbrev pub decreases-loop-end : goal.decreases-loop-end
decreases-loop-end g l = l.end - l.at
