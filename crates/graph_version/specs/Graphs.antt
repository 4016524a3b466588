-- The first of a list of graphs.
use Rattle.std.specs.Prelude.{List, [], ◌∷◌}
use Rattle.graph_types.specs.{Graph.Graph, Step.empty_graph}

abbrev pub first_graph : List Graph → Graph
first_graph [] = empty_graph
first_graph (g ∷ gs) = g
