use Rattle.std.proofs.Common.{◌≡◌, [], drop}
use Rattle.graph_version.specs.Listed.{put_targets}
use Rattle.graph_version.proofs.listed_arcs.ListedArcsViewEdges.list_targets.Given as goal

abbrev pub invariant-loop-arc : goal.invariant-loop-arc
invariant-loop-arc l =
    put_targets l.self.count l.source (drop l.arc-index l.self.arcs.items) l.targets.items
    ≡ put_targets l.self.count l.source l.self.arcs.items []
