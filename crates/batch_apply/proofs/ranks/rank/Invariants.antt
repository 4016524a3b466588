use Rattle.std.proofs.Common.{◌≡◌, ◌≤◌, ◌<◌, ℕ, length, get_or, Some, nat_eq, true}
use Rattle.std.specs.{Prelude.slice_get, List.list_any, List.Sorted.IsStrictlyIncreasing}
use Rattle.batch_apply.specs.Sorting.{entry_at, ranked_numbers}
use Rattle.batch_apply.proofs.ranks.rank.Given as goal

abbrev pub invariant-loop-index : goal.invariant-loop-index
invariant-loop-index l = record {
  rising : IsStrictlyIncreasing (ranked_numbers l.numbers.items);
  least : (k j : ℕ) → k < length l.numbers.items → l.index ≤ j → j < length l.entries.items
      → get_or (ranked_numbers l.numbers.items) k 0 ≤ (entry_at l.entries.items j).number;
  from : (k : ℕ) → k < length l.numbers.items → list_any (nat_eq (get_or (ranked_numbers l.numbers.items) k 0)) (ranked_numbers l.list) ≡ true;
  few : length l.numbers.items ≤ l.index;
  long : length l.places.items ≡ length l.list;
  placed : (j : ℕ) → j < l.index
      → slice_get (ranked_numbers l.numbers.items) (get_or l.places.items (entry_at l.entries.items j).place 0) ≡ Some (get_or (ranked_numbers l.list) (entry_at l.entries.items j).place 0);
}
