use Rattle.std.proofs.Common.{◌≡◌, ◌%◌, ◌^◌, length, take}
use Rattle.graph_version.specs.Rows.{blocks_of}
use Rattle.graph_version.specs.Edges.{edges_in_blocks}
use Rattle.graph_version.proofs.drafts.edges_in_rows.Given as goal

abbrev pub invariant-loop-source : goal.invariant-loop-source
invariant-loop-source l = l.edges ≡ length (edges_in_blocks (blocks_of (take l.source l.rows))) % 2 ^ 64
