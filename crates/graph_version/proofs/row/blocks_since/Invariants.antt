use Rattle.std.proofs.Common.{◌≡◌, false, take, All}
use Rattle.edge_block.specs.Slots.{IsBlock, has_before}
use Rattle.graph_version.specs.Sharing.{block_value}
use Rattle.graph_version.proofs.row.blocks_since.Given as goal

abbrev pub invariant-loop-block : goal.invariant-loop-block
invariant-loop-block l = record {
  since : All (λ b. has_before l.since (block_value b).slots ≡ false) (take l.block-index l.blocks);
  blocks : All (λ b. IsBlock (block_value b)) (take l.block-index l.blocks);
}
