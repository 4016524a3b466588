-- How many blocks are free, and how many retired, after a batch and after a collection.
use Rattle.std.proofs.Common.{◌≡◌, ◌≢◌, ℕ, ◌+◌, ◌==◌, Bool, true, false, cond, ◌||◌, List, [], ◌∷◌, length, get_or, map, set}
use Rattle.std.proofs.{Common.{count_by, refl, sym, ap, ◌∙◌, arith, ◌&&◌}, lemmas.Bool.{eq-eqb, true≢false, or_right}}
use Rattle.std.proofs.lemmas.{Option.{slice_get_within, get_or_from_slice_get}, Grind.common_steps, List.length-map}
use Rattle.std.specs.{Option.option_map, Prelude.{slice_get, if◌then◌else◌}, declared.option.Option.TheVariants.Some}
use Rattle.block_pool.{proofs.Grants.length-marked, specs.Pools.{retired, is_free_at, marked}}
use Rattle.block_pool.specs.Pools.{changed_numbers, is_used_at}
use Rattle.block_reclamation.specs.Status.{is_among, is_free, is_retired, is_reclaimable, recycled}
use Rattle.block_reclamation.specs.{declared.{copies.PinCopy.PinCopy, status.BlockStatus.BlockStatus}, Copies.needs}
use Rattle.block_reclamation.specs.declared.status.BlockStatus.TheVariants.{Free, Granted, Used}
use Rattle.block_reclamation.proofs.{OneStatus.{free_is, not_both, born_is}, Recycling.free_one}
use Rattle.graph_types.proofs.{ListPlaces.set_else, Sums.{count_here, count_more, count_none, count_true, count_map}}
use Rattle.epoch_core.{specs.Blocks.all_differ, proofs.Lists.all_listed}
use Rattle.epoch_core.proofs.BlockSteps.{differ_head, differ_tail}
use Rattle.block_pool.proofs.Marked.{marked_changed, length-changed}
use Rattle.store_steps.specs.Desks.{DeskView, IsCollected, CollectedCounts, is_retired_by, birth_of, birth_at, ledger_of}
use Rattle.store_steps.specs.{Journal.{is_legal, after_entry}, Acceptances.{Acceptance, AcceptedCounts, applied_entry}}
use Rattle.store_steps.proofs.{CollectedDesk.recycled_and_left, ChangedLists.marked_at, Posting.IsLegalBatch}
use Rattle.store_steps.proofs.Posting.{legal_batch}

-- each of these numbers has this status
abbrev AllAre : (ℕ → BlockStatus) → List BlockStatus → List ℕ → Type 0
AllAre of pool ns = (m : ℕ) → is_among m ns ≡ true → slice_get pool m ≡ Some (of m)

-- different numbers change their status: what passes a test afterwards is counted in place of what passed it before
counts_changed : (p : BlockStatus → Bool) (change : BlockStatus → BlockStatus) (of : ℕ → BlockStatus) (ns : List ℕ)
    (pool : List BlockStatus) → all_differ ns ≡ true → AllAre of pool ns
    → count_by p (changed_numbers change ns pool) + count_by (λ n. p (of n)) ns ≡ count_by p pool + count_by (λ n. p (change (of n))) ns
counts_changed p change of [] pool apart are = refl
counts_changed p change of (n ∷ ns) pool apart are =
    let here : slice_get pool n ≡ Some (of n) = are n (ap (λ t. t || is_among n ns) (eq-eqb n n refl)) in
    let was : BlockStatus = get_or pool n Granted in
    let same : was ≡ of n = get_or_from_slice_get pool n (of n) Granted here in
    let behind : AllAre of (set pool n (change was)) ns = λ m is.
    let ne : m ≢ n = λ e. absurd (true≢false (sym is ∙ ap (λ x. is_among x ns) e ∙ differ_head n ns apart)) in
    set_else pool n m (change was) ne ∙ are m (or_right (n == m) (is_among m ns) is) in
    omega (
      arith,
      count_here p pool n (change was) Granted (slice_get_within pool n (of n) here),
      counts_changed p change of ns (set pool n (change was)) (differ_tail n ns apart) behind,
      count_more (λ k. p (of k)) n ns,
      count_more (λ k. p (change (of k))) n ns,
      ap (λ s. cond {A = ℕ} (p s) 1 0) same,
      ap (λ s. cond {A = ℕ} (p (change s)) 1 0) same,
    )

-- A batch

taken_have : (pool : List BlockStatus) (taken dropped : List ℕ) → IsLegalBatch pool taken dropped → AllAre (λ _. Free) pool taken
taken_have pool taken dropped legal m is = free_is (slice_get pool m) (all_listed (is_free_at pool) taken m legal.free is)

born_in : (pool : List BlockStatus) (taken dropped : List ℕ) → IsLegalBatch pool taken dropped → (m : ℕ) → is_among m dropped ≡ true
    → is_used_at pool m ≡ true
born_in pool taken dropped legal m is = all_listed (is_used_at pool) dropped m legal.born is

-- no block is both taken and dropped
not_taken : (pool : List BlockStatus) (taken dropped : List ℕ) → IsLegalBatch pool taken dropped → (m : ℕ) → is_among m dropped ≡ true
    → is_among m taken ≡ false
not_taken pool taken dropped legal m is = grind (arith, common_steps, not_both, all_listed, born_in)

dropped_have : (pool : List BlockStatus) (number : ℕ) (taken dropped : List ℕ) → IsLegalBatch pool taken dropped
    → AllAre (λ m. Used (birth_at pool m)) (marked taken (Used number) pool) dropped
dropped_have pool number taken dropped legal m is =
    let born = born_is (slice_get pool m) (born_in pool taken dropped legal m is) in
    let here : birth_at pool m ≡ born.0 = ap birth_of (get_or_from_slice_get pool m (Used born.0) Granted born.1) in
    marked_at taken (Used number) pool m
    ∙ ap (λ t. if t then option_map (λ _. Used number) (slice_get pool m) else slice_get pool m)
    (not_taken pool taken dropped legal m is) ∙ born.1 ∙ ap (λ b. Some (Used b)) (sym here)

pub accepted_counts : (a : Acceptance) → is_legal (ledger_of a.old) (applied_entry a) ≡ true
    → ledger_of a.new ≡ after_entry (ledger_of a.old) (applied_entry a) → AcceptedCounts a
accepted_counts a legal_is ledger =
    let legal : IsLegalBatch a.old.pool a.taken a.dropped =
    legal_batch (ledger_of a.old) a.batch a.taken a.dropped legal_is in
    let number : ℕ = length a.old.last.batches + 1 in
    let granted : List BlockStatus = marked a.taken (Used number) a.old.pool in
    let births : ℕ → ℕ = birth_at a.old.pool in
    let same : a.new.pool ≡ changed_numbers (retired number) a.dropped granted = ap (λ l. l.pool) ledger in
    let there : granted ≡ changed_numbers (λ _. Used number) a.taken a.old.pool = marked_changed a.taken (Used number) a.old.pool in
    let taking = λ (p : BlockStatus → Bool).
    counts_changed p (λ _. Used number) (λ _. Free) a.taken a.old.pool legal.apart (taken_have a.old.pool a.taken a.dropped legal) in
    let dropping = λ (p : BlockStatus → Bool). counts_changed p (retired number) (λ m. Used (births m)) a.dropped granted
    legal.dropped_apart (dropped_have a.old.pool number a.taken a.dropped legal) in
    let none = count_none a.dropped in
    record {
      free = omega (
        arith,
        ap (count_by is_free) same,
        ap (count_by is_free) there,
        taking is_free,
        dropping is_free,
        count_true a.taken,
        count_none a.taken,
      );
      retired = omega (
        arith,
        ap (count_by is_retired) same,
        ap (count_by is_retired) there,
        taking is_retired,
        dropping is_retired,
        count_true a.dropped,
        none,
      );
      retired_by = λ q. omega (
        arith,
        ap (count_by (is_retired_by q)) same,
        ap (count_by (is_retired_by q)) there,
        taking (is_retired_by q),
        dropping (is_retired_by q),
        count_map (λ birth. q birth number) births a.dropped,
        none,
      );
      blocks = ap length same ∙ (length-changed (retired number) a.dropped granted ∙ length-marked a.taken (Used number) a.old.pool);
    }

-- A collection

free_more : (copy : PinCopy) (pool : List BlockStatus) → count_by is_free (map (recycled copy) pool)
    ≡ count_by is_free pool + count_by (is_reclaimable copy) pool
free_more copy [] = omega arith
free_more copy (s ∷ pool) = omega (
  arith,
  count_more is_free (recycled copy s) (map (recycled copy) pool),
  count_more is_free s pool,
  count_more (is_reclaimable copy) s pool,
  free_one copy s,
  free_more copy pool,
)

needed_all : (q : ℕ → ℕ → Bool) (copy : PinCopy) (pool : List BlockStatus) → count_by (is_retired_by q) (map (recycled copy) pool)
    ≡ count_by (is_retired_by (λ birth retirement. needs copy birth retirement && q birth retirement)) pool
needed_all q copy pool = grind (arith, common_steps)

pub collected_counts : (old new : DeskView) (copy : PinCopy) → IsCollected old copy new → CollectedCounts old copy new
collected_counts old new copy collected =
    let free : count_by is_free new.pool ≡ count_by is_free (map (recycled copy) old.pool) =
    ap (count_by is_free) collected.pool in
    let left : count_by is_retired new.pool ≡ count_by is_retired (map (recycled copy) old.pool) =
    ap (count_by is_retired) collected.pool in
    let more = free_more copy old.pool in
    let both = recycled_and_left copy old.pool in
    record {
      free = omega arith;
      retired = omega arith;
      retired_by = λ q. ap (count_by (is_retired_by q)) collected.pool ∙ needed_all q copy old.pool;
      blocks = ap length collected.pool ∙ length-map old.pool (recycled copy);
    }
