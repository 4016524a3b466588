use Rattle.std.proofs.Common.{◌≡◌, ◌≤◌, ◌⊎◌, [], map, vec_len}
use Rattle.graph_version.specs.Rows.{row_of}
use Rattle.batch_shards.specs.{RowBlocks.shared_numbers, Spending.needed_past, Done.AreBlockRows, Progress.AreRowsDone}
use Rattle.batch_shards.proofs.shard.work_on.Given as goal

abbrev pub invariant-loop-row : goal.invariant-loop-row
invariant-loop-row l = record {
  fresh : needed_past l.row (row_of l.version.rows) (map (λ s. s.0) l.sources.items) l.steps.items ≤ vec_len l.fresh;
  done : AreRowsDone (row_of l.version.rows) (map (λ s. s.0) l.sources.items) l.steps.items
      (shared_numbers l.initial.fresh.items) l.row l.fresh.items l.done;
  empty : l.list.items ≡ [];
  rows : (l.row ≡ 0) ⊎ AreBlockRows (row_of l.version.rows);
}
