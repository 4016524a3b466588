use Rattle.std.proofs.Common.{◌≡◌, drop, length}
use Rattle.epoch_core.specs.Opened.{heap_with}
use Rattle.epoch_core.proofs.start.fill_lists.Given as goal

abbrev pub invariant-loop-list : goal.invariant-loop-list
invariant-loop-list l = record {
  rest : heap_with (drop l.list-index l.lists) l.heap.items ≡ heap_with l.lists l.initial.heap.items;
  long : length l.heap.items ≡ length l.initial.heap.items;
}
