use Rattle.std.proofs.Common.{◌≡◌, ◌%◌, ◌^◌, length, take}
use Rattle.graph_version.specs.Sharing.{block_values}
use Rattle.graph_version.specs.Edges.{edges_in_blocks}
use Rattle.graph_version.proofs.drafts.edges_in_row.Given as goal

abbrev pub invariant-loop-block : goal.invariant-loop-block
invariant-loop-block l = l.edges ≡ length (edges_in_blocks (block_values (take l.block-index l.blocks))) % 2 ^ 64
