use Rattle.std.proofs.Common.{◌≡◌, ◌+◌, ◌-◌, ◌≤◌, length, Some}
use Rattle.batch_columns.specs.Dictionaries.{insertions_from}
use Rattle.desk_columns.specs.Feeding.{columns_of}
use Rattle.desk_columns.proofs.columns.batch_of.Given as goal

-- the insertions so far are the batch
abbrev pub invariant-loop-alloc : goal.invariant-loop-alloc
invariant-loop-alloc l = record {
  at : l.place ≡ l.from + length l.batch;
  within : length l.batch ≤ l.count;
  fit : insertions_from (columns_of l.insertions) l.from (length l.batch) ≡ Some l.batch;
}

abbrev pub decreases-loop-alloc : goal.decreases-loop-alloc
decreases-loop-alloc l = l.from + l.count - l.place
