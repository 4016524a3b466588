use Rattle.std.proofs.Common.{◌≡◌, ◌++◌, drop}
use Rattle.graph_walks.specs.ByTarget.{sources_shown}
use Rattle.graph_walks.proofs.incoming.push_sources.Given as goal

abbrev pub invariant-loop-edge : goal.invariant-loop-edge
invariant-loop-edge l = l.sources.items ++ sources_shown l.filter (drop l.edge-index l.edges)
    ≡ l.fn.sources.items ++ sources_shown l.filter l.edges
