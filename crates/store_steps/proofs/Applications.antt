-- A batch that was applied to a desk with granted blocks: how often it has a number, and what it leaves of the pool.
use Rattle.std.proofs.Common.{◌≡◌, ℕ, ◌+◌, ◌≤◌, ◌==◌, true, List, length, count_by, sym, ap, ◌∙◌, arith}
use Rattle.std.specs.{Prelude.{slice_get, if◌then◌else◌}, Option.option_map}
use Rattle.edge_block.specs.Slots.{BlockView}
use Rattle.graph_version.specs.Rows.{blocks_of, numbers_of}
use Rattle.block_reclamation.specs.{Status.is_among, declared.status.BlockStatus.BlockStatus}
use Rattle.block_reclamation.specs.declared.status.BlockStatus.TheVariants.{Free, Granted, Used}
use Rattle.block_reclamation.proofs.OneStatus.{marked_if}
use Rattle.graph_types.proofs.{ListPlaces.same_list, Searches.all_from, Times.times}
use Rattle.graph_types.proofs.Times.{is_some_times, some_either}
use Rattle.graph_version.proofs.ListedNumbers.{times_numbers}
use Rattle.block_pool.specs.Pools.{retired, is_free_at, marked, changed_numbers, AreFree, is_used_at}
use Rattle.epoch_core.{specs.Blocks.all_differ, proofs.Lists.all_listed}
use Rattle.block_pool.proofs.OneNumber.{OneNumber, one_number, number_after}
use Rattle.store_steps.specs.{Journal.{Entry, Applied, exchanged}, Desks.{DeskView, IsDesk, last_numbers}}
use Rattle.store_steps.specs.Acceptances.{Application, IsAppliedTo, Acceptance, acceptance_of, desk_after}
use Rattle.store_steps.proofs.{NumberLists.differ_from, ChangedLists.marked_at}
use Rattle.store_steps.proofs.{ChangedLists.changed_at, Counting.in_times}
use Rattle.store_steps.proofs.Counting.{once_at_most, apart_if}

-- a batch that was applied to a desk's last version, with blocks that are free
pub record DeskApplication : Type 0 where
  pub old : DeskView
  pub made : Application
  pub before : IsDesk old
  pub free : AreFree old.pool made.granted
  pub applied : IsAppliedTo old.last made

-- how the desk accepts it
abbrev pub acceptance : DeskApplication → Acceptance
acceptance a = acceptance_of a.old a.made

abbrev pub number_in_desk : DeskApplication → ℕ
number_in_desk a = length a.old.last.batches + 1

abbrev pub dropped_numbers : DeskApplication → List ℕ
dropped_numbers a = numbers_of a.made.dropped

abbrev pub next_desk : DeskApplication → DeskView
next_desk a = desk_after a.old a.made

abbrev pub entry_in : DeskApplication → Entry
entry_in a = Applied a.made.batch a.made.taken (dropped_numbers a)

abbrev kept_times : DeskApplication → ℕ → ℕ
kept_times a m = times m (numbers_of a.applied.exchanged.kept)

abbrev dropped_times : DeskApplication → ℕ → ℕ
dropped_times a m = times m (dropped_numbers a)

-- Counts of one number

before_times : (a : DeskApplication) (m : ℕ) → times m (last_numbers a.old) ≡ kept_times a m + dropped_times a m
before_times a m =
    times_numbers m (blocks_of a.old.last.rows) ∙ sym (a.applied.exchanged.before_are (λ b. b.number == m))
    ∙ ap (λ n. n + count_by (λ (b : BlockView). b.number == m) a.made.dropped) (sym (times_numbers m a.applied.exchanged.kept))
    ∙ ap (λ n. kept_times a m + n) (sym (times_numbers m a.made.dropped))

pub after_times : (a : DeskApplication) (m : ℕ) → times m (numbers_of (blocks_of a.made.version.rows)) ≡ kept_times a m + times m a.made.taken
after_times a m =
    times_numbers m (blocks_of a.made.version.rows) ∙ sym (a.applied.exchanged.after_are (λ b. b.number == m))
    ∙ ap (λ n. n + count_by (λ (b : BlockView). b.number == m) a.applied.exchanged.fresh)
    (sym (times_numbers m a.applied.exchanged.kept))
    ∙ ap (λ n. kept_times a m + n) (sym (times_numbers m a.applied.exchanged.fresh))
    ∙ ap (λ ns. kept_times a m + times m ns) a.applied.exchanged.taken_are

handed_times : (a : DeskApplication) (m : ℕ) → times m a.made.granted ≡ times m a.made.taken + times m a.made.unused
handed_times a m = sym (a.applied.handed (λ n. n == m))

before_once : (a : DeskApplication) (m : ℕ) → kept_times a m + dropped_times a m ≤ 1
before_once a m =
    let once : times m (last_numbers a.old) ≤ 1 = once_at_most m (last_numbers a.old)
    (differ_from (last_numbers a.old) a.before.version.rows.numbers) in
    let same = before_times a m in omega arith

pub handed_once : (a : DeskApplication) (m : ℕ) → times m a.made.taken + times m a.made.unused ≤ 1
handed_once a m =
    let once : times m a.made.granted ≤ 1 = once_at_most m a.made.granted (differ_from a.made.granted a.free.distinct) in
    let same = handed_times a m in omega arith

-- numbers that were granted are free
pub granted_free : (pool : List BlockStatus) (numbers : List ℕ) (m : ℕ) → AreFree pool numbers → is_among m numbers ≡ true
    → is_free_at pool m ≡ true
granted_free pool numbers m free is = all_listed (is_free_at pool) numbers m (all_from (is_free_at pool) numbers free.free) is

pub in_numbers : (a : DeskApplication) (m : ℕ) → is_among m a.made.granted ≡ is_some_times (times m a.made.taken + times m a.made.unused)
in_numbers a m = in_times m a.made.granted ∙ ap is_some_times (handed_times a m)

in_before : (a : DeskApplication) (m : ℕ) → is_used_at a.old.pool m ≡ is_some_times (kept_times a m + dropped_times a m)
in_before a m = a.before.listed m ∙ in_times m (last_numbers a.old) ∙ ap is_some_times (before_times a m)

pub one : (a : DeskApplication) (m : ℕ) → OneNumber (number_in_desk a) (slice_get a.old.pool m) (record {
  kept = kept_times a m;
  dropped = dropped_times a m;
  taken = times m a.made.taken;
  unused = times m a.made.unused;
})
one a m =
    one_number (number_in_desk a) (slice_get a.old.pool m) (kept_times a m) (dropped_times a m) (times m a.made.taken)
    (times m a.made.unused)
    (before_once a m) (handed_once a m) (in_before a m) (λ is. granted_free a.old.pool a.made.granted m a.free
    (in_numbers a m ∙ is))

pub dropped_differ : (a : DeskApplication) → all_differ (dropped_numbers a) ≡ true
dropped_differ a = apart_if (dropped_numbers a) (λ m. let once = before_once a m in omega arith)

pub dropped_born : (a : DeskApplication) (m : ℕ) → is_among m (dropped_numbers a) ≡ true → is_used_at a.old.pool m ≡ true
dropped_born a m is = in_before a m ∙ some_either (kept_times a m) (dropped_times a m) (sym (in_times m (dropped_numbers a)) ∙ is)

-- The pool, at one number

pub exchanged_at : (number : ℕ) (taken dropped : List ℕ) (pool : List BlockStatus) (m : ℕ) → all_differ dropped ≡ true
    → slice_get (exchanged number taken dropped pool) m ≡ number_after number (slice_get pool m) (is_among m taken) (is_among m dropped)
exchanged_at number taken dropped pool m apart =
    changed_at (retired number) dropped (marked taken (Used number) pool) m apart
    ∙ ap (λ o. if is_among m dropped then option_map (retired number) o else o) (marked_at taken (Used number) pool m)

pub next_at : (a : DeskApplication) (m : ℕ) → slice_get (next_desk a).pool m
    ≡ number_after (number_in_desk a) (slice_get a.old.pool m) (is_some_times (times m a.made.taken))
    (is_some_times (dropped_times a m))
next_at a m =
    exchanged_at (number_in_desk a) a.made.taken (dropped_numbers a) a.old.pool m (dropped_differ a)
    ∙ ap (λ t. number_after (number_in_desk a) (slice_get a.old.pool m) t (is_among m (dropped_numbers a))) (in_times m a.made.taken)
    ∙ ap (number_after (number_in_desk a) (slice_get a.old.pool m) (is_some_times (times m a.made.taken)))
    (in_times m (dropped_numbers a))

-- the pool after the grant, then after the taken blocks are born, and then after the dropped ones are retired
abbrev pub granted_pool : DeskApplication → List BlockStatus
granted_pool a = marked a.made.granted Granted a.old.pool

abbrev pub born_pool : DeskApplication → List BlockStatus
born_pool a = marked a.made.taken (Used (number_in_desk a)) (granted_pool a)

abbrev pub retired_pool : DeskApplication → List BlockStatus
retired_pool a = changed_numbers (retired (number_in_desk a)) (dropped_numbers a) (born_pool a)

retired_at : (a : DeskApplication) (m : ℕ) → slice_get (retired_pool a) m ≡ number_after (number_in_desk a)
    (marked_if Granted (is_some_times (times m a.made.taken + times m a.made.unused)) (slice_get a.old.pool m))
    (is_some_times (times m a.made.taken)) (is_some_times (dropped_times a m))
retired_at a m =
    exchanged_at (number_in_desk a) a.made.taken (dropped_numbers a) (granted_pool a) m (dropped_differ a)
    ∙ ap (λ o. number_after (number_in_desk a) o (is_among m a.made.taken) (is_among m (dropped_numbers a)))
    (marked_at a.made.granted Granted a.old.pool m ∙ ap (λ t. marked_if Granted t (slice_get a.old.pool m)) (in_numbers a m))
    ∙ ap (λ t. number_after (number_in_desk a)
    (marked_if Granted (is_some_times (times m a.made.taken + times m a.made.unused)) (slice_get a.old.pool m)) t
    (is_among m (dropped_numbers a))) (in_times m a.made.taken) ∙ ap (number_after (number_in_desk a)
    (marked_if Granted (is_some_times (times m a.made.taken + times m a.made.unused)) (slice_get a.old.pool m))
    (is_some_times (times m a.made.taken))) (in_times m (dropped_numbers a))

-- once the unused are given back, the pool is what the journal's entry says
pub moves_left : (a : DeskApplication) → marked a.made.unused Free (retired_pool a) ≡ (next_desk a).pool
moves_left a = same_list _ _ (λ m.
    marked_at a.made.unused Free (retired_pool a) m ∙ ap (λ t. marked_if Free t (slice_get (retired_pool a) m)) (in_times m a.made.unused)
    ∙ ap (marked_if Free (is_some_times (times m a.made.unused))) (retired_at a m) ∙ (one a m).moved ∙ sym (next_at a m))
