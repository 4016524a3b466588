use Rattle.std.proofs.Common.{◌≡◌, ◌+◌, map, count_by, length}
use Rattle.block_pool.specs.{Chains.stack_of, declared.numbers.TheConstants.{LOOSE, LATE}, Kept.{statuses, AreNeeded, HasPins}}
use Rattle.block_pool.specs.Kept.{IsNumbers}
use Rattle.block_reclamation.specs.Status.{recycled, is_reclaimable}
use Rattle.block_pool.proofs.numbers.Numbers.sort.Given as goal

abbrev pub invariant-sort : goal.invariant-sort
invariant-sort l = record {
  kept : IsNumbers l.self;
  pins : HasPins l.copy l.self.pins;
  late : AreNeeded l.copy (statuses l.self) (stack_of l.self.retired.lists LATE);
  after : map (recycled l.copy) (statuses l.self) ≡ map (recycled l.copy) (statuses l.initial.self);
  counted : l.count + count_by (is_reclaimable l.copy) (statuses l.self) ≡ count_by (is_reclaimable l.copy) (statuses l.initial.self);
}

abbrev pub decreases-sort : goal.decreases-sort
decreases-sort l = length (stack_of l.self.retired.lists LOOSE)
