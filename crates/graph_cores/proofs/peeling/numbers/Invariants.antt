use Rattle.std.proofs.Common.{◌≡◌, ◌<◌, ℕ, length}
use Rattle.graph_types.specs.Arcs.{at}
use Rattle.graph_cores.proofs.peeling.numbers.Given as goal

abbrev pub invariant-loop-number : goal.invariant-loop-number
invariant-loop-number l = record {
  long : length l.numbers.items ≡ l.number;
  each : (v : ℕ) → v < l.number → at l.numbers.items v ≡ v;
}
