use Rattle.std.proofs.Common.{◌≡◌, ◌-◌, ◌≤◌, length}
use Rattle.graph_version.specs.RowGroups.{filled, AreGroups}
use Rattle.graph_version.proofs.row_hall.add_groups.Given as goal

abbrev pub invariant-loop-alloc : goal.invariant-loop-alloc
invariant-loop-alloc l = record {
  same : filled l.groups.items ≡ filled l.initial.groups.items;
  groups : AreGroups l.groups.items;
  few : length l.groups.items ≤ 64;
}

abbrev pub decreases-loop-alloc : goal.decreases-loop-alloc
decreases-loop-alloc l = l.count - length l.groups.items
