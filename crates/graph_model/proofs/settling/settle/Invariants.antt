use Rattle.std.{proofs.Common.◌≤◌, specs.Prelude.All, specs.Prelude.sum}
use Rattle.graph_types.specs.Limits.{most_names}
use Rattle.graph_types.specs.Arcs.{IsLowered}
use Rattle.graph_model.proofs.settling.settle.Given as goal

abbrev pub invariant-rounds : goal.invariant-rounds
invariant-rounds l = record {
  few : All (λ number. number ≤ most_names) l.numbers;
  lowered : IsLowered l.arcs l.step l.fn.numbers l.numbers;
}

abbrev pub decreases-rounds : goal.decreases-rounds
decreases-rounds l = sum l.numbers
