use Rattle.std.proofs.Common.{◌≡◌, [], length, replicate, map}
use Rattle.block_pool.specs.Paging.{items_of}
use Rattle.block_pool.proofs.pages.Pages.new.Given as goal

abbrev pub invariant-loop : goal.invariant-loop
invariant-loop g l = record {
  count : length l.pages.items ≡ l.counter;
  empty : map items_of l.pages.items ≡ replicate l.counter [];
}
