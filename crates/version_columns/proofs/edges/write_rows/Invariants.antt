use Rattle.std.proofs.Common.{◌≡◌, ◌-◌, ◌≤◌, ◌⊎◌, length}
use Rattle.version_columns.specs.Rows.{columns, with_edges, with_values, lent_rows_from, sources_from}
use Rattle.version_columns.proofs.edges.write_rows.Given as goal

abbrev pub invariant-loop-next : goal.invariant-loop-next
invariant-loop-next l = record {
  onward : l.source ≤ l.next;
  most : (l.next ≤ l.vertices) ⊎ (l.next ≡ l.source);
  counted : l.count ≡ length (lent_rows_from l.view l.version l.source (l.next - l.source));
  fits : l.count ≤ length l.kinds;
  edges : columns l.kinds l.targets l.weights l.firsts l.recents
      ≡ with_edges 0 (lent_rows_from l.view l.version l.source (l.next - l.source))
      (columns l.fn.kinds l.fn.targets l.fn.weights l.fn.firsts l.fn.recents);
  sources_are : l.sources ≡ with_values 0 (sources_from l.view l.version l.source (l.next - l.source)) l.fn.sources;
}

abbrev pub decreases-loop-next : goal.decreases-loop-next
decreases-loop-next l = l.vertices - l.next
