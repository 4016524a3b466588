use Rattle.std.proofs.Common.{◌≤◌, ◌<◌, ◌-◌, ℕ, length, get_or}
use Rattle.graph_types.specs.declared.ids.Edge.{Edge}
use Rattle.opening_columns.specs.Runs.{AreAlike}
use Rattle.opening_columns.proofs.filling.run_length.Given as goal

abbrev pub invariant-loop-count : goal.invariant-loop-count
invariant-loop-count l = record {
  low : 0 < l.count;
  few : l.count ≤ 32;
  within : l.count ≤ length l.edges;
  alike : (i : ℕ) (d : Edge) → i < l.count → AreAlike (get_or l.edges 0 d) (get_or l.edges i d);
}

abbrev pub decreases-loop-count : goal.decreases-loop-count
decreases-loop-count l = length l.edges - l.count
