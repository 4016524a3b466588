use Rattle.std.proofs.Common.{◌≡◌, drop, length}
use Rattle.epoch_core.specs.Opened.{status_with}
use Rattle.epoch_core.proofs.start.mark_lists.Given as goal

abbrev pub invariant-loop-list : goal.invariant-loop-list
invariant-loop-list l = record {
  rest : status_with (drop l.list-index l.lists) l.status.items ≡ status_with l.lists l.initial.status.items;
  long : length l.status.items ≡ length l.initial.status.items;
}
