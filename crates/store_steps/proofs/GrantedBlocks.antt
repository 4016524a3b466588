-- The blocks that a batch was granted can be born, and given back.
use Rattle.std.proofs.Common.{◌≡◌, ℕ, zero, suc, ◌≤◌, true, false, List, refl, sym, ap, ◌∙◌, arith}
use Rattle.std.{proofs.lemmas.Grind.common_steps, proofs.lemmas.Bool.true≢false, specs.Option.option_map}
use Rattle.std.specs.Prelude.{slice_get, if◌then◌else◌}
use Rattle.block_reclamation.specs.Status.{is_among, is_in_use, is_used, is_at}
use Rattle.block_reclamation.specs.declared.status.BlockStatus.{BlockStatus, TheVariants.{Free, Granted, Used}}
use Rattle.block_reclamation.proofs.{ListedNumbers.all_by, OneStatus.{used_marked, not_both}}
use Rattle.block_reclamation.proofs.OneStatus.{marked_if, there_and_back, used_born, born_and_back}
use Rattle.graph_types.proofs.{ListPlaces.same_list, Times.times}
use Rattle.graph_types.proofs.Times.{is_some_times, some_either}
use Rattle.epoch_core.proofs.BlockSteps.{AreMovable}
use Rattle.block_pool.specs.Pools.{retired, is_free_at, marked, AreFree, is_in_use_at, is_used_at}
use Rattle.store_steps.{specs.Desks.{DeskView, IsDesk, last_numbers}, proofs.NumberLists.differ_from}
use Rattle.store_steps.proofs.ChangedLists.{marked_at, changed_at}
use Rattle.store_steps.proofs.Counting.{in_times, apart_if, listed}
use Rattle.store_steps.proofs.Applications.{DeskApplication, number_in_desk, dropped_numbers, handed_once, granted_free, in_numbers}
use Rattle.store_steps.proofs.Applications.{dropped_differ, dropped_born, granted_pool, born_pool, retired_pool}

granted_used : (pool : List BlockStatus) (numbers : List ℕ) (m : ℕ) → is_free_at pool m ≡ true → is_among m numbers ≡ true
    → is_in_use_at (marked numbers Granted pool) m ≡ true
granted_used pool numbers m free is =
    ap (is_at is_in_use) (marked_at numbers Granted pool m)
    ∙ ap (λ t. is_at is_in_use (marked_if Granted t (slice_get pool m))) is ∙ used_marked (slice_get pool m) free

-- what was granted is not the last version's
pub not_granted : (d : DeskView) (numbers : List ℕ) (m : ℕ) → IsDesk d → AreFree d.pool numbers
    → is_among m (last_numbers d) ≡ true → is_among m numbers ≡ false
not_granted d numbers m desk free listed = grind (arith, common_steps, not_both, granted_free)

not_dropped : (a : DeskApplication) (m : ℕ) → is_free_at a.old.pool m ≡ true → is_among m (dropped_numbers a) ≡ false
not_dropped a m free = grind (arith, common_steps, dropped_numbers, not_both, dropped_born)

pub taken_granted : (a : DeskApplication) (m : ℕ) → is_among m a.made.taken ≡ true → is_among m a.made.granted ≡ true
taken_granted a m is = grind (arith, common_steps, is_some_times, times, some_either, in_times, in_numbers)

unused_granted : (a : DeskApplication) (m : ℕ) → is_among m a.made.unused ≡ true → is_among m a.made.granted ≡ true
unused_granted a m is = in_numbers a m ∙ some_either (times m a.made.taken) (times m a.made.unused) (sym (in_times m a.made.unused) ∙ is)

-- what is born isn't granted, nor taken
born_ungranted : (a : DeskApplication) (m : ℕ) → is_used_at a.old.pool m ≡ true → is_among m a.made.granted ≡ false
born_ungranted a m born = not_granted a.old a.made.granted m a.before a.free (sym (a.before.listed m) ∙ born)

pub not_taken : (a : DeskApplication) (m : ℕ) → is_among m a.made.granted ≡ false → is_among m a.made.taken ≡ false
not_taken a m none = grind (arith, common_steps, true≢false, taken_granted)

-- no number is both taken and unused
unused_untaken : (a : DeskApplication) (m : ℕ) → is_among m a.made.unused ≡ true → is_among m a.made.taken ≡ false
unused_untaken a m is =
    let once = handed_once a m in
    let some : 1 ≤ times m a.made.unused = at_least_once (times m a.made.unused) (sym (in_times m a.made.unused) ∙ is) in
    in_times m a.made.taken ∙ none_times (times m a.made.taken) (omega arith)
  where
    at_least_once : (k : ℕ) → is_some_times k ≡ true → 1 ≤ k
    at_least_once zero e = cc
    at_least_once (suc k) e = omega arith

    none_times : (k : ℕ) → k ≤ 0 → is_some_times k ≡ false
    none_times zero h = refl
    none_times (suc k) h = absurd (omega arith)

-- the taken blocks can be born, then the dropped ones be retired, and then the unused be given back
pub taken_movable : (a : DeskApplication) → AreMovable is_in_use a.made.taken (granted_pool a)
taken_movable a = record {
  pass = all_by (is_in_use_at (granted_pool a)) a.made.taken (λ m is.
      let granted : is_among m a.made.granted ≡ true = taken_granted a m is in
      granted_used a.old.pool a.made.granted m (granted_free a.old.pool a.made.granted m a.free granted) granted);
  apart = apart_if a.made.taken (λ m. let once = handed_once a m in omega arith);
}

pub dropped_movable : (a : DeskApplication) → AreMovable is_used (dropped_numbers a) (born_pool a)
dropped_movable a = record {
  pass = all_by (is_used_at (born_pool a)) (dropped_numbers a) (λ m is.
      let born : is_used_at a.old.pool m ≡ true = dropped_born a m is in
      let none : is_among m a.made.granted ≡ false = born_ungranted a m born in
      ap (is_at is_used) (marked_at a.made.taken (Used (number_in_desk a)) (granted_pool a) m)
      ∙ ap (λ t. is_at is_used (marked_if (Used (number_in_desk a)) t (slice_get (granted_pool a) m))) (not_taken a m none)
      ∙ ap (is_at is_used) (marked_at a.made.granted Granted a.old.pool m)
      ∙ ap (λ t. is_at is_used (marked_if Granted t (slice_get a.old.pool m))) none ∙ born);
  apart = dropped_differ a;
}

pub unused_movable : (a : DeskApplication) → AreMovable is_in_use a.made.unused (retired_pool a)
unused_movable a = record {
  pass = all_by (is_in_use_at (retired_pool a)) a.made.unused (λ m is.
      let granted : is_among m a.made.granted ≡ true = unused_granted a m is in
      let free : is_free_at a.old.pool m ≡ true = granted_free a.old.pool a.made.granted m a.free granted in
      let stays : is_among m (dropped_numbers a) ≡ false = not_dropped a m free in
      ap (is_at is_in_use) (changed_at (retired (number_in_desk a)) (dropped_numbers a) (born_pool a) m (dropped_differ a))
      ∙ ap (λ t. is_at is_in_use (if t then option_map (retired (number_in_desk a)) (slice_get (born_pool a) m) else slice_get
      (born_pool a) m)) stays ∙ ap (is_at is_in_use) (marked_at a.made.taken (Used (number_in_desk a)) (granted_pool a) m)
      ∙ ap (λ t. is_at is_in_use (marked_if (Used (number_in_desk a)) t (slice_get (granted_pool a) m))) (unused_untaken a m is)
      ∙ granted_used a.old.pool a.made.granted m free granted);
  apart = apart_if a.made.unused (λ m. let once = handed_once a m in omega arith);
}

-- what was granted can be given back, and then the pool is as before
pub granted_movable : (pool : List BlockStatus) (numbers : List ℕ) → AreFree pool numbers
    → AreMovable is_in_use numbers (marked numbers Granted pool)
granted_movable pool numbers free = grind (arith, common_steps, all_by, granted_used, granted_free, differ_from)

pub given_back : (pool : List BlockStatus) (numbers : List ℕ) → AreFree pool numbers
    → marked numbers Free (marked numbers Granted pool) ≡ pool
given_back pool numbers free = grind (arith, common_steps, same_list, marked_at, marked_if, there_and_back, granted_free)

-- and so it can where some of them were born meanwhile

pub born_movable : (pool : List BlockStatus) (numbers taken : List ℕ) (n : ℕ) → AreFree pool numbers
    → AreMovable is_in_use numbers (marked taken (Used n) (marked numbers Granted pool))
born_movable pool numbers taken n free =
    grind (arith, common_steps, all_by, marked_at, used_born, granted_used, granted_free, differ_from)

pub born_given_back : (pool : List BlockStatus) (numbers taken : List ℕ) (n : ℕ) → AreFree pool numbers
    → ((m : ℕ) → is_among m taken ≡ true → is_among m numbers ≡ true)
    → marked numbers Free (marked taken (Used n) (marked numbers Granted pool)) ≡ pool
born_given_back pool numbers taken n free within =
    grind (arith, common_steps, same_list, marked_at, marked_if, born_and_back, granted_free)
