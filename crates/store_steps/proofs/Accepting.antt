-- A batch that was applied with granted blocks: its entry is legal, births go over as the rule says, and the desk after it is one.
use Rattle.std.proofs.Common.{◌≡◌, ℕ, zero, suc, Bool, true, false, List, [], ◌∷◌, ◌++◌, length, get_or, map, count_by, refl}
use Rattle.std.proofs.{Common.{sym, ap, ◌∙◌, arith}, lemmas.{Grind.common_steps, Bool.true≢false}}
use Rattle.std.specs.{List.list_all, Option.option_and_then, Prelude.slice_get, Prelude.if◌then◌else◌, Prelude.Contains}
use Rattle.std.specs.declared.option.Option.{Option, TheVariants.None, TheVariants.Some}
use Rattle.block_pool.{proofs.Grants.length-marked, specs.Pools.{retired, is_free_at, marked, is_used_at}}
use Rattle.graph_types.specs.Step.{after_all}
use Rattle.edge_block.specs.Slots.{BlockView}
use Rattle.graph_version.specs.{Rows.{row_of, blocks_of, numbers_of}, Versions.{content, layout_of}}
use Rattle.batch_shards.specs.Births.{births_after, dropped_births}
use Rattle.block_reclamation.specs.{Status.is_among, Status.is_used, Status.is_at, declared.status.BlockStatus.TheVariants.Used}
use Rattle.block_reclamation.proofs.ListedNumbers.{all_by}
use Rattle.graph_types.proofs.Times.{is_some_times}
use Rattle.edge_block.proofs.BlockCounts.{default_same}
use Rattle.epoch_core.specs.Blocks.{all_differ}
use Rattle.block_pool.proofs.Marked.{length-changed}
use Rattle.block_pool.proofs.OneNumber.{number_after}
use Rattle.store_steps.specs.Journal.{Entry, Ledger, opened_ledger, is_legal, after_entry, entered, replay}
use Rattle.store_steps.specs.Desks.{IsDesk, birth_at, births_in, last_numbers, ledger_of}
use Rattle.store_steps.specs.Acceptances.{KeepsUntaken}
use Rattle.store_steps.proofs.NumberLists.{number_in}
use Rattle.store_steps.proofs.Counting.{in_times, apart_if, same_block, counted, listed}
use Rattle.store_steps.proofs.Births.{birth_in, birth_from, birth_taken, birth_stays, births_of, number_of_row, row_listed}
use Rattle.store_steps.proofs.Applications.{DeskApplication, acceptance, number_in_desk, dropped_numbers, next_desk, entry_in, after_times}
use Rattle.store_steps.proofs.Applications.{handed_once, granted_free, one, dropped_differ, dropped_born, exchanged_at, next_at}
use Rattle.store_steps.proofs.GrantedBlocks.{not_granted, taken_granted, not_taken}

-- The entry is legal, and the desk is one

last_one : (o : Option Ledger) → option_and_then (replay []) o ≡ o
last_one o = grind (arith, common_steps)

-- a journal with one entry more
pub replay_more : (es : List Entry) (e : Entry) (l : Ledger) → replay (es ++ e ∷ []) l
    ≡ option_and_then (λ m. entered m e) (replay es l)
replay_more [] e l = last_one (entered l e)
replay_more (f ∷ es) e l = elim (entered l f) as (λ o. option_and_then (replay (es ++ e ∷ [])) o
    ≡ option_and_then (λ m. entered m e) (option_and_then (replay es) o)) [
      | None ↦ refl
      | Some m ↦ replay_more es e m
    ]

pub made_legal : (a : DeskApplication) → is_legal (ledger_of a.old) (entry_in a) ≡ true
made_legal a =
    let free : list_all (is_free_at a.old.pool) a.made.taken ≡ true = all_by (is_free_at a.old.pool) a.made.taken (λ m is.
    granted_free a.old.pool a.made.granted m a.free (taken_granted a m is)) in
    let apart : all_differ a.made.taken ≡ true = apart_if a.made.taken (λ m. let once = handed_once a m in omega arith) in
    let born : list_all (is_used_at a.old.pool) (dropped_numbers a) ≡ true =
    all_by (is_used_at a.old.pool) (dropped_numbers a) (dropped_born a) in
    let different = dropped_differ a in
    rw (free, apart, born, different) refl

-- a block of the next version that isn't a taken one is a block of the last
kept_before : (a : DeskApplication) (b : BlockView) → Contains (blocks_of a.made.version.rows) b → is_among b.number a.made.taken ≡ false
    → Contains (blocks_of a.old.last.rows) b
kept_before a b there apart =
    let p : BlockView → Bool = λ x. same_block x b in
    let all = counted b (blocks_of a.made.version.rows) there.0 there.1 there.2 in
    let after = a.applied.exchanged.after_are p in
    let before = a.applied.exchanged.before_are p in
    elim (count_by p a.applied.exchanged.fresh) as (λ n. count_by p a.applied.exchanged.fresh ≡ n
    → Contains (blocks_of a.old.last.rows) b) [
      | zero ↦ λ none. listed b (blocks_of a.old.last.rows) (omega arith)
      | suc n ↦ λ some.
          (let fresh : Contains a.applied.exchanged.fresh b = listed b a.applied.exchanged.fresh (omega arith) in
          let taken : is_among b.number a.made.taken ≡ true =
          ap (is_among b.number) (sym a.applied.exchanged.taken_are)
          ∙ number_in a.applied.exchanged.fresh b fresh.0 fresh.1 fresh.2 in
          absurd (true≢false (sym taken ∙ apart)))
    ] refl

pub made_kept : (a : DeskApplication) → KeepsUntaken (acceptance a)
made_kept a = λ k d h apart. kept_before a (get_or (blocks_of a.made.version.rows) k d)
    (k, h, default_same (blocks_of a.made.version.rows) k d h) apart

-- Births

birth_next : (a : DeskApplication) (m : ℕ) → birth_at (next_desk a).pool m
    ≡ birth_in (number_after (number_in_desk a) (slice_get a.old.pool m) (is_among m a.made.taken) (is_among m (dropped_numbers a)))
birth_next a m =
    birth_from (next_desk a).pool m
    ∙ ap birth_in (exchanged_at (number_in_desk a) a.made.taken (dropped_numbers a) a.old.pool m (dropped_differ a))

taken_born : (a : DeskApplication) (m : ℕ) → is_among m a.made.taken ≡ true → birth_at (next_desk a).pool m ≡ number_in_desk a
taken_born a m is =
    birth_next a m
    ∙ ap (λ t. birth_in (number_after (number_in_desk a) (slice_get a.old.pool m) t (is_among m (dropped_numbers a)))) is
    ∙ birth_taken (number_in_desk a) (slice_get a.old.pool m) (is_among m (dropped_numbers a))
    (granted_free a.old.pool a.made.granted m a.free (taken_granted a m is))

listed_born : (a : DeskApplication) (m : ℕ) → is_among m (last_numbers a.old) ≡ true
    → birth_at (next_desk a).pool m ≡ birth_at a.old.pool m
listed_born a m listed =
    let none : is_among m a.made.taken ≡ false = not_taken a m (not_granted a.old a.made.granted m a.before a.free listed) in
    birth_next a m
    ∙ ap (λ t. birth_in (number_after (number_in_desk a) (slice_get a.old.pool m) t (is_among m (dropped_numbers a)))) none
    ∙ birth_stays (number_in_desk a) (slice_get a.old.pool m) (is_among m (dropped_numbers a)) ∙ sym (birth_from a.old.pool m)

pub made_births : (a : DeskApplication) (source : ℕ) → births_in (next_desk a) source
    ≡ births_after (number_in_desk a) a.made.batch (content a.old.last) (layout_of a.old.last.rows) (births_in a.old) source
made_births a source =
    a.applied.births.rows (λ b. birth_at a.old.pool b.number) (λ b. birth_at (next_desk a).pool b.number)
    (number_in_desk a) source (λ b is. taken_born a b.number is)
    (λ k d h. listed_born a (get_or (row_of a.old.last.rows source) k d).number
    (row_listed a.old.last.rows source (get_or (row_of a.old.last.rows source) k d).number
    (number_of_row (row_of a.old.last.rows source) k d h)))

pub made_dropped_births : (a : DeskApplication) (q : ℕ → Bool) → count_by q (map (birth_at a.old.pool) (dropped_numbers a))
    ≡ count_by q (dropped_births a.made.batch (content a.old.last) (layout_of a.old.last.rows) (births_in a.old)
    (length (after_all a.made.batch (content a.old.last)).names))
made_dropped_births a q =
    ap (count_by q) (births_of a.old.pool a.made.dropped)
    ∙ a.applied.births.dropped_are (λ b. birth_at a.old.pool b.number) q

-- The desk afterwards

pub made_ledger : (a : DeskApplication) → ledger_of (next_desk a) ≡ after_entry (ledger_of a.old) (entry_in a)
made_ledger a = λ i. record { batches = a.applied.batches i; pool = (next_desk a).pool }

pub made_desk : (a : DeskApplication) → IsDesk (next_desk a)
made_desk a = record {
  version = a.applied.version;
  replays =
      let same : length (next_desk a).pool ≡ length a.old.pool =
      length-changed (retired (number_in_desk a)) (dropped_numbers a) (marked a.made.taken (Used (number_in_desk a)) a.old.pool)
      ∙ length-marked a.made.taken (Used (number_in_desk a)) a.old.pool in
      ap (λ n. replay (a.old.journal ++ entry_in a ∷ []) (opened_ledger n a.old.opened)) same
      ∙ replay_more a.old.journal (entry_in a) (opened_ledger (length a.old.pool) a.old.opened)
      ∙ ap (option_and_then (λ m. entered m (entry_in a))) a.before.replays
      ∙ ap (λ t. if t then Some (after_entry (ledger_of a.old) (entry_in a)) else None) (made_legal a)
      ∙ ap Some (λ i. record { batches = sym a.applied.batches i; pool = (next_desk a).pool });
  listed = λ m. ap (is_at is_used) (next_at a m) ∙ (one a m).born
      ∙ sym (in_times m (numbers_of (blocks_of a.made.version.rows)) ∙ ap is_some_times (after_times a m));
}
