use Rattle.std.proofs.Common.{◌≡◌, ◌<◌, [], map, take, length, All, vec_len, vec_capacity}
use Rattle.batch_shards.specs.RowBlocks.{shared_blocks, kept_of, opens, had_in, own_in, IsOf}
use Rattle.batch_shards.proofs.open_rows.open_row.Given as goal

abbrev pub invariant-loop-block : goal.invariant-loop-block
invariant-loop-block l = record {
  blocks : opens l.blocks.items ≡ map kept_of (take l.block-index l.row);
  had : had_in l.blocks.items ≡ shared_blocks (take l.block-index l.row);
  none_own : own_in l.blocks.items ≡ [];
  own : All (IsOf l.source.0) l.blocks.items;
  count : vec_len l.blocks ≡ l.block-index;
  room : length l.row < vec_capacity l.blocks;
}
