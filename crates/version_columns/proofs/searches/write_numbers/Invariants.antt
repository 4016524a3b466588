use Rattle.std.proofs.Common.{◌≡◌, ◌-◌, ◌≤◌, ◌⊎◌, length}
use Rattle.version_columns.specs.{Rows.with_values, Searches.numbers_with}
use Rattle.version_columns.proofs.searches.write_numbers.Given as goal

abbrev pub invariant-loop-next : goal.invariant-loop-next
invariant-loop-next l = record {
  onward : l.from ≤ l.next;
  most : (l.next ≤ l.names) ⊎ (l.next ≡ l.from);
  written : l.numbers ≡ with_values 0 (numbers_with l.text l.book.names l.from (l.next - l.from)) l.fn.numbers;
  counted : l.count ≡ length (numbers_with l.text l.book.names l.from (l.next - l.from));
  fits : l.count ≤ length l.numbers;
}

abbrev pub decreases-loop-next : goal.decreases-loop-next
decreases-loop-next l = l.names - l.next
