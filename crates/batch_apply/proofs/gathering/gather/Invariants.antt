use Rattle.std.proofs.Common.{◌≡◌, ◌++◌, flat_map, replicate}
use Rattle.graph_types.specs.declared.batches.Outcome.TheVariants.{Absent}
use Rattle.batch_shards.specs.{RowBlocks.shared_blocks, RowBlocks.shared_numbers, Closing.row_values}
use Rattle.batch_apply.specs.Applied.{written_from}
use Rattle.batch_apply.proofs.gathering.gather.Given as goal

abbrev pub invariant-loop-done : goal.invariant-loop-done
invariant-loop-done l = record {
  outcomes : l.all.outcomes.items ≡ written_from l.yielded (replicate l.operations Absent);
  rows : row_values l.all.rows.items ≡ flat_map (λ d. row_values d.rows.items) l.yielded;
  taken : l.all.left.taken.items ≡ flat_map (λ d. d.left.taken.items) l.yielded;
  dropped : shared_blocks l.all.left.dropped.items ≡ flat_map (λ d. shared_blocks d.left.dropped.items) l.yielded;
  unused : shared_numbers l.all.left.unused.items ≡ shared_numbers l.fn.unused.items
      ++ flat_map (λ d. shared_numbers d.left.unused.items) l.yielded;
}
