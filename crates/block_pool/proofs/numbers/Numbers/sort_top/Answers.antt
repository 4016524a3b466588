use Rattle.std.proofs.Common.{◌≡◌, ◌∙◌, ℕ, map, count_by, true, sym, ap, arith}
use Rattle.std.proofs.lemmas.Grind.{common_steps}
use Rattle.block_pool.specs.{Chains.stack_of, declared.numbers.TheConstants.{LOOSE, LATE}, Kept.{statuses, status_of, top_of}}
use Rattle.block_reclamation.specs.declared.status.BlockStatus.TheVariants.{Retired}
use Rattle.block_reclamation.specs.Status.{is_retired, is_reclaimable, recycled}
use Rattle.block_reclamation.proofs.Recycling.{pinned, later, kept_back}
use Rattle.block_pool.proofs.Tallies.{recycled_set, past_set}
use Rattle.block_pool.proofs.Stacking.{top_listed, needed_moved}
use Rattle.block_pool.proofs.numbers.Numbers.sort_top.Goals as goal
use Rattle.block_pool.proofs.numbers.Numbers.sort_top.Goals.{After-dates_of-dates}

pub top-number-requires : goal.top-number-requires
top-number-requires c = record { stack = omega (arith, c.requires.kept.sorted.many); some = c.requires.some }

pub dates_of-dates-requires : goal.dates_of-dates-requires
dates_of-dates-requires c =
    let n = c.args.self.now in
    let is = top_listed c.requires.kept.sorted LOOSE (omega arith) c.requires.some in
    let num : c.top-number.result ≡ top_of (stack_of n.retired.lists LOOSE) = sym (ap top_of c.top-number.ensures) in
    record {
      within = omega (arith, is.0, num);
      retired = ap (λ (j : ℕ). is_retired (status_of (statuses n) j)) num ∙ is.1;
    }

-- the top of the loose numbers has the dates that were read
dated : (c : After-dates_of-dates) → status_of (statuses c.args.self.now) (top_of (stack_of c.args.self.now.retired.lists LOOSE))
    ≡ Retired c.dates_of-dates.result.birth c.dates_of-dates.result.retirement
dated c = ap (status_of (statuses c.args.self.now)) (ap top_of c.top-number.ensures) ∙ c.dates_of-dates.ensures

-- the seat whose pin needs it
pub move_top-requires : goal.move_top-requires
move_top-requires c =
    let found = c.in-Some.ensures in
    record {
      kept = c.requires.kept;
      from = omega arith;
      to = omega (arith, found.0);
      other = λ e. omega (arith, e, found.0);
      some = c.requires.some;
      fits = record {
        held = λ copy low same.
            ap (is_reclaimable copy) (dated (goal.at.move_top-requires c).After-dates_of-dates)
            ∙ pinned copy c.dates_of-dates.result.birth c.dates_of-dates.result.retirement c.in-Some.seat _
            (same ∙ sym (c.requires.pins c.in-Some.seat low)) found.1;
        late = λ copy is less. absurd (omega (arith, is, found.0));
      };
    }

pub move_top-requires-2-clause-fits : goal.move_top-requires-2-clause-fits
move_top-requires-2-clause-fits c = record {
  held = λ copy low same. absurd (omega (arith, low));
  late = λ copy is less.
      ap (is_reclaimable copy) (dated (goal.at.move_top-requires-2-clause-fits c).After-dates_of-dates)
      ∙ later c.dates_of-dates.result.birth c.dates_of-dates.result.retirement copy (omega (arith, less, c.min-self.ensures));
}

pub returns-clause-late : goal.returns-clause-late
returns-clause-late c =
    let n = c.args.self.now in
    let copy = c.args.copy.now in
    let many = c.requires.kept.sorted.many in
    rw (c.move_top-2.ensures.same.same, c.move_top-2.ensures.lists)
    (needed_moved copy (statuses n) n.retired.lists LOOSE LATE LATE (omega arith) (omega arith)
    (λ e. ap (is_reclaimable copy) (dated (goal.at.returns-clause-late c).After-dates_of-dates)
    ∙ kept_back c.dates_of-dates.result.birth c.dates_of-dates.result.retirement copy (sym c.is_needed.ensures ∙ c.if-not-is_needed.false))
    c.requires.late)

-- and may be due
freed : (c : goal.After-release_top) → is_reclaimable c.args.copy.now (status_of (statuses c.args.self.now)
    (top_of (stack_of c.args.self.now.retired.lists LOOSE))) ≡ true
freed c = grind (arith, common_steps)

pub returns-then-not-is_needed-clause-recycled : goal.returns-then-not-is_needed-clause-recycled
returns-then-not-is_needed-clause-recycled c =
    ap (map (recycled c.args.copy.now)) c.release_top.ensures.statuses ∙ recycled_set c.args.copy.now (statuses c.args.self.now) _ (freed c)

pub returns-then-not-is_needed-clause-count : goal.returns-then-not-is_needed-clause-count
returns-then-not-is_needed-clause-count c =
    let copy = c.args.copy.now in
    let listed = top_listed c.requires.kept.sorted LOOSE (omega arith) c.requires.some in
    let less = past_set copy (statuses c.args.self.now) _ listed.0 (freed c) in
    let told = ap (count_by (is_reclaimable copy)) c.release_top.ensures.statuses in
    omega (arith, less, told)
