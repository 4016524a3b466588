use Rattle.std.proofs.Common.{◌≡◌, ◌-◌, ◌≤◌, ◌^◌, ℕ, length}
use Rattle.graph_version.specs.{Rows.row_of, RowHalls.in_halls, RowHalls.AreHalls}
use Rattle.graph_version.proofs.rows.add_halls.Given as goal

abbrev pub invariant-loop-alloc : goal.invariant-loop-alloc
invariant-loop-alloc l = record {
  same : (s : ℕ) → row_of (in_halls l.halls.items) s ≡ row_of (in_halls l.initial.halls.items) s;
  halls : AreHalls l.halls.items;
  more : length l.initial.halls.items ≤ length l.halls.items;
  few : length l.halls.items ≤ 2 ^ 16;
}

abbrev pub decreases-loop-alloc : goal.decreases-loop-alloc
decreases-loop-alloc l = l.count - length l.halls.items
