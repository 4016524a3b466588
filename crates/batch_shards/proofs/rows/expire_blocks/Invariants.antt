use Rattle.std.{proofs.Common.{◌≡◌, ℕ, ◌%◌, ◌^◌, All, take}, specs.List.sum_by}
use Rattle.graph_types.proofs.MappedFirst.{map_first}
use Rattle.edge_block.specs.{Slots.old_in, Rows.expire_block}
use Rattle.batch_shards.specs.RowBlocks.{opens, had_in, own_in, shared_numbers, HaveSame, IsOf}
use Rattle.batch_shards.specs.OpenRows.{LeavesEnough}
use Rattle.batch_shards.proofs.rows.expire_blocks.Given as goal

abbrev pub invariant-loop-place : goal.invariant-loop-place
invariant-loop-place l = record {
  row : opens l.row.items ≡ map_first (expire_block l.time) l.place (opens l.initial.row.items);
  count : l.count ≡ sum_by (λ b. old_in l.time b.shape.slots) (take l.place (opens l.initial.row.items)) % 2 ^ 64;
  had : had_in l.row.items ≡ had_in l.initial.row.items;
  own : (source : ℕ) → All (IsOf source) l.initial.row.items → All (IsOf source) l.row.items;
  numbers : HaveSame (own_in l.row.items) (shared_numbers l.fresh.items) (own_in l.initial.row.items)
      (shared_numbers l.initial.fresh.items);
  enough : LeavesEnough l.time 0 l.initial.row.items l.initial.fresh l.row.items l.fresh;
}
