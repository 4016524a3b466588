use Rattle.std.proofs.Common.{ap}
use Rattle.graph_types.{specs.Graph.Graph, proofs.Keys.same_map_of}
use Rattle.graph_types.proofs.laws.law_edge_order.Goals as goal

pub returns : goal.returns
returns c = λ limits content edges is moved. ap
    (λ edges. let g : Graph = record { names = content.names; kinds = content.kinds; edges = edges; limits = limits } in g)
    (same_map_of content.edges edges is.keys_distinct moved)
