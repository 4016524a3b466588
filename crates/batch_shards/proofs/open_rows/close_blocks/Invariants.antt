use Rattle.std.proofs.Common.{◌≡◌, ◌≤◌, ◌++◌, map, length, vec_len, vec_capacity}
use Rattle.batch_shards.specs.{RowBlocks.{shared_blocks, shared_numbers}, Closing.{after_of, written_of, dropped_of, unused_of}}
use Rattle.batch_shards.proofs.open_rows.close_blocks.Given as goal

abbrev pub invariant-loop-block : goal.invariant-loop-block
invariant-loop-block l = record {
  few : vec_len l.row ≤ length l.yielded;
  room : length l.fn.blocks.items ≤ vec_capacity l.row;
  row : shared_blocks l.row.items ≡ after_of l.yielded;
  taken : l.left.taken.items ≡ l.initial.left.taken.items ++ map (λ b. b.number) (written_of l.yielded);
  dropped : shared_blocks l.left.dropped.items ≡ shared_blocks l.initial.left.dropped.items ++ dropped_of l.yielded;
  unused : shared_numbers l.left.unused.items ≡ shared_numbers l.initial.left.unused.items ++ unused_of l.yielded;
}
