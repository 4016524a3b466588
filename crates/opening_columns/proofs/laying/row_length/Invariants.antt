use Rattle.std.proofs.Common.{◌≡◌, ◌≤◌, ◌<◌, ◌-◌, ℕ, length, get_or}
use Rattle.edge_block.specs.Slots.{BlockView}
use Rattle.graph_version.specs.Sharing.{block_values}
use Rattle.opening_columns.proofs.laying.row_length.Given as goal

abbrev pub invariant-loop-count : goal.invariant-loop-count
invariant-loop-count l = record {
  low : 0 < l.count;
  within : l.count ≤ length l.blocks;
  alike : (i : ℕ) (d : BlockView) → i < l.count → (get_or (block_values l.blocks) i d).source ≡ (get_or (block_values l.blocks) 0 d).source;
}

abbrev pub decreases-loop-count : goal.decreases-loop-count
decreases-loop-count l = length l.blocks - l.count
