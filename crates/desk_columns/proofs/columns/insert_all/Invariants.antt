use Rattle.std.proofs.Common.{◌≡◌, ◌-◌, ◌≤◌, length}
use Rattle.desk_counts.specs.Counted.{none_counted}
use Rattle.desk_columns.specs.Feeding.{AreIn, columns_of}
use Rattle.desk_columns.proofs.columns.insert_all.Given as goal

-- the insertions before the place are in
abbrev pub invariant-loop-at : goal.invariant-loop-at
invariant-loop-at l = record {
  within : l.at ≤ l.count;
  done_is : l.done ≡ l.at;
  are_in : AreIn l.fn.desk (none_counted (length l.fn.desk.desk.last.batches)) (columns_of l.insertions) l.at l.desk l.counts;
}

abbrev pub decreases-loop-at : goal.decreases-loop-at
decreases-loop-at l = l.count - l.at
