use Rattle.std.proofs.Common.{◌≡◌, ◌≤◌, ◌+◌, ◌-◌, ◌++◌, List, length, take, Some}
use Rattle.graph_types.specs.declared.batches.NamedOp.{NamedOp}
use Rattle.batch_columns.specs.Operations.{table_of, operations_from}
use Rattle.batch_columns.proofs.operations.push_from.Given as goal

-- the operations before the place are behind the batch's own, and no other place is told yet
abbrev pub invariant-loop-alloc : goal.invariant-loop-alloc
invariant-loop-alloc l = record {
  told : l.done ≡ l.fn.done;
  order : l.fn.done ≤ l.place;
  within : l.place - l.fn.done ≤ l.count - l.fn.done;
  few : length l.batch ≡ length l.fn.batch + (l.place - l.fn.done);
  room : l.place - l.fn.done ≤ l.limit - length l.fn.batch;
  extended : (ops : List NamedOp) × (operations_from (table_of l.operations) l.fn.done (l.place - l.fn.done) ≡ Some ops)
      × (l.batch ≡ l.fn.batch ++ ops);
  own : take (length l.fn.batch) l.batch ≡ l.fn.batch;
}

abbrev pub decreases-loop-alloc : goal.decreases-loop-alloc
decreases-loop-alloc l = l.count - l.place
