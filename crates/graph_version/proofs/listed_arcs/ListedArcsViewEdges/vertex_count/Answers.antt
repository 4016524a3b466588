use Rattle.graph_version.proofs.Arcs.{ends_within}
use Rattle.graph_version.proofs.listed_arcs.ListedArcsViewEdges.vertex_count.Goals as goal

pub returns-clause-within : goal.returns-clause-within
returns-clause-within c = ends_within c.args.self.now.count c.args.self.now.arcs.items
