use Rattle.std.proofs.Common.{◌≡◌, ◌≤◌, ◌+◌, ℕ, length, get_or}
use Rattle.block_pool.proofs.pages.fill.Given as goal

abbrev pub invariant-loop-place : goal.invariant-loop-place
invariant-loop-place g l = record {
  long : length l.page.items ≡ l.place;
  more : length l.initial.page.items ≤ l.place;
  same : (k : ℕ) → get_or l.page.items k (g.T.Blank.blank (l.first + k)) ≡ get_or l.initial.page.items k (g.T.Blank.blank (l.first + k));
}
