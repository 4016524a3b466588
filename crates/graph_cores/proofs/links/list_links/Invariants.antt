use Rattle.graph_cores.{specs.Peel.both_ways, proofs.LinkSteps.LinksBelow}
use Rattle.graph_cores.proofs.links.list_links.Given as goal

abbrev pub invariant-loop-vertex : goal.invariant-loop-vertex
invariant-loop-vertex g l = LinksBelow (g.E.ViewEdges.filter l.edges) (g.E.ViewEdges.graph l.edges) l.vertex
    (both_ways l.links.items)
