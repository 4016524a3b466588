use Rattle.std.proofs.Common.{◌≡◌, take, None}
use Rattle.edge_block.specs.Slots.{first_some}
use Rattle.graph_version.proofs.Looks.{place_at}
use Rattle.graph_version.proofs.versions.Version.edge.Given as goal

abbrev pub invariant-loop-block : goal.invariant-loop-block
invariant-loop-block l = first_some (place_at (l.kind.0, l.target.0)) (take l.block-index l.block-items) ≡ None
