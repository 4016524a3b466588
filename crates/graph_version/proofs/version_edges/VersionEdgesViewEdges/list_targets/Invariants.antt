use Rattle.std.proofs.Common.{◌≡◌, ◌++◌, drop}
use Rattle.graph_version.proofs.Targets.{targets_in}
use Rattle.graph_version.proofs.version_edges.VersionEdgesViewEdges.list_targets.Given as goal

abbrev pub invariant-loop-block : goal.invariant-loop-block
invariant-loop-block l = l.targets.items ++ targets_in l.self.filter (drop l.block-index l.block-items)
    ≡ targets_in l.self.filter l.block-items
