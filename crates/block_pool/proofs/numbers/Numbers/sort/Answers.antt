use Rattle.std.proofs.{Common.{◌≡◌, ◌∙◌, count_by, map, sym, subst, refl, arith}, lemmas.List.{Sums.count_by-le-length}}
use Rattle.block_pool.specs.{Chains.stack_of, declared.numbers.TheConstants.LOOSE, Kept.{statuses, HasPins}}
use Rattle.block_reclamation.specs.Status.{is_reclaimable, recycled}
use Rattle.graph_types.proofs.ListPlaces.{no_number}
use Rattle.block_pool.proofs.{Tallies.none_past, Stacking.all_sorted}
use Rattle.block_pool.proofs.numbers.Numbers.sort.Goals as goal

pub sort-init : goal.sort-init
sort-init c = record {
  kept = c.requires.kept;
  pins = c.requires.pins;
  late = c.requires.late;
  after = refl;
  counted = omega arith;
}

pub sort_top-count-requires : goal.sort_top-count-requires
sort_top-count-requires c = record {
  floor = c.floor-floor.ensures;
  kept = c.sort.invariant.kept;
  pins = c.sort.invariant.pins;
  late = c.sort.invariant.late;
  some = omega (arith, c.height.ensures, c.sort-test.true);
}

pub overflow_add-count : goal.overflow_add-count
overflow_add-count c =
    let few = count_by-le-length (is_reclaimable c.args.copy.now) (statuses c.args.self.now) in
    omega (arith, few, c.requires.kept.few, c.sort.invariant.counted, c.sort_top-count.ensures.count)

pub sort-preserved : goal.sort-preserved
sort-preserved c = record {
  kept = c.sort_top-count.ensures.kept;
  pins = subst (HasPins c.args.copy.now) (sym c.sort_top-count.ensures.pins) c.sort.invariant.pins;
  late = c.sort_top-count.ensures.late;
  after = c.sort_top-count.ensures.recycled ∙ c.sort.invariant.after;
  counted = omega (arith, c.sort.invariant.counted, c.sort_top-count.ensures.count);
}

-- at last no number is due
none_due : (c : goal.After-sort) → (map (recycled c.args.copy.now) (statuses c.sort.self) ≡ statuses c.sort.self)
    × (count_by (is_reclaimable c.args.copy.now) (statuses c.sort.self) ≡ 0)
none_due c =
    let empty = no_number (stack_of c.sort.self.retired.lists LOOSE) (omega (arith, c.height.ensures, c.sort-test.false)) in
    none_past c.args.copy.now (statuses c.sort.self)
    (all_sorted c.sort.invariant.kept.sorted c.args.copy.now c.sort.invariant.pins c.sort.invariant.late empty)

pub returns-clause-statuses : goal.returns-clause-statuses
returns-clause-statuses c = sym (none_due c).0 ∙ c.sort.invariant.after

pub returns-clause-count : goal.returns-clause-count
returns-clause-count c = let none = (none_due c).1 in omega (arith, none, c.sort.invariant.counted)
