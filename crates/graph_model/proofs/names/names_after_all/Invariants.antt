-- What the operations that are left make of the names so far is what all of them make of the first.
use Rattle.std.proofs.Common.{◌≡◌, ◌≤◌, drop, length}
use Rattle.graph_types.specs.Parts.{names_after_all}
use Rattle.graph_model.proofs.names.names_after_all.Given as goal

abbrev pub invariant-loop-op : goal.invariant-loop-op
invariant-loop-op l = record {
  rest : names_after_all (drop l.op-index l.ops) l.all.items ≡ names_after_all l.ops l.names;
  few : length l.all.items ≤ l.limit;
}
