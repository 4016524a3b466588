use Rattle.std.proofs.Common.{◌≡◌, ◌-◌, ◌≤◌, ◌⊎◌, ◌==◌, ℕ, length, drop, false}
use Rattle.std.specs.List.{list_any}
use Rattle.version_diff.specs.Differences.{differences_from}
use Rattle.version_diff.proofs.sources.find_differences.Given as goal

-- The sources that are past are below the next one.
abbrev pub invariant-loop-source : goal.invariant-loop-source
invariant-loop-source l = record {
  onward : l.from ≤ l.next;
  most : (l.next ≤ l.vertices) ⊎ (l.next ≡ l.from);
  differences_are : l.differences.items ≡ differences_from l.view l.pair l.from (l.next - l.from);
  fits : length l.differences.items ≤ l.room;
  past : (s : ℕ) → l.next ≤ s → list_any (λ v. s == v.0) (drop l.source-index l.source-items) ≡ false
      → list_any (λ v. s == v.0) l.source-items ≡ false;
}
