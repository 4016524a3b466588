use Rattle.std.{proofs.Common.◌≡◌, proofs.Common.length, specs.Prelude.sum}
use Rattle.graph_types.specs.{Graph.graph_of, Arcs.AreUpper}
use Rattle.graph_model.proofs.cores.plain_cores.Given as goal

abbrev pub invariant-rounds : goal.invariant-rounds
invariant-rounds l = record {
  size : length l.numbers.items ≡ length l.content.names;
  upper : AreUpper l.fn.filter (graph_of l.content) (length l.content.names) l.numbers.items;
}

abbrev pub decreases-rounds : goal.decreases-rounds
decreases-rounds l = sum l.numbers.items
