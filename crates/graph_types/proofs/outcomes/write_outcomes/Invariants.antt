use Rattle.std.proofs.Common.{◌≡◌}
use Rattle.graph_types.specs.Outcomes.{written}
use Rattle.graph_types.proofs.outcomes.write_outcomes.Given as goal

abbrev pub invariant-loop-place : goal.invariant-loop-place
invariant-loop-place l = l.outcomes.items ≡ written l.yielded l.initial.outcomes.items
