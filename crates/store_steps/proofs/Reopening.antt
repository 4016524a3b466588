-- Desks that open: anew over a version's blocks, or blank, with the births of their blocks.
use Rattle.std.proofs.Common.{◌≡◌, ℕ, zero, suc, ◌<◌, Bool, true, false, cond, ◌||◌, ◌≢◌, List, [], ◌∷◌, map, length, set}
use Rattle.std.proofs.Common.{replicate, if◌then◌else◌, ◌==◌, All, count_by, refl, sym, ap, ap₂, subst, ◌∙◌, arith}
use Rattle.std.proofs.lemmas.{Bool.{eq-eqb, eqb-true, true≢false}, Grind.common_steps, List.length-replicate}
use Rattle.std.specs.{Option.option_map, Prelude.slice_get, declared.option.Option.TheVariants.Some}
use Rattle.block_reclamation.specs.{Status.{is_among, is_used, is_at, is_in_use}, declared.status.BlockStatus.BlockStatus}
use Rattle.block_reclamation.specs.declared.status.BlockStatus.TheVariants.{Free, Granted, Used, Retired}
use Rattle.block_reclamation.proofs.{OneStatus.twice_marked, StatusCounts.length_free}
use Rattle.graph_types.specs.Limits.{LimitsView}
use Rattle.graph_types.proofs.{ListPlaces.{set_else, same_list}, Sums.count_more}
use Rattle.edge_block.specs.{Rows.{Shape, shape_of}, Slots.BlockView}
use Rattle.graph_version.specs.{Rebased.IsRebased, Rows.{numbers_of, blocks_of}}
use Rattle.graph_version.specs.Versions.{VersionView, IsVersion, empty_version_in}
use Rattle.epoch_core.specs.{Blocks.all_differ, Worlds.start_world_in}
use Rattle.epoch_core.proofs.BlockSteps.{differ_tail, differ_head}
use Rattle.block_pool.specs.Pools.{is_used_at, marked, AreFree}
use Rattle.block_pool.proofs.{Grants.length-marked, Marked.{all_below, none_born, one_freed, freed_there, free_below}}
use Rattle.store_steps.specs.{Dates.IsDatedBlock, Desks.{DeskView, IsDesk, last_numbers, birth_at}}
use Rattle.store_steps.specs.{Opening.{IsVersionZero, opened_desk}, Shown.ShowsWorld}
use Rattle.store_steps.proofs.ChangedLists.{marked_at}

-- a version over the very rows is one to open with
pub zero_over : (d : DeskView) (z : VersionView) → IsDesk d → IsVersion z → IsRebased d.last z → z.rows ≡ d.last.rows
    → IsVersionZero (length d.pool) z
zero_over d z desk is rebased very = record {
  version = is;
  alone = rebased.batches;
  within = subst (λ (rows : List (List BlockView)). All (λ n. n < length d.pool) (numbers_of (blocks_of rows))) (sym very)
      (all_below d.pool (last_numbers d) (λ m listed. desk.listed m ∙ listed));
}

-- those that are born are these numbers, each once
pub born_counted : (ns : List ℕ) (pool : List BlockStatus) → all_differ ns ≡ true → ((n : ℕ) → is_used_at pool n ≡ is_among n ns)
    → count_by is_used pool ≡ length ns
born_counted [] pool apart born = none_born pool born
born_counted (n ∷ ns) pool apart born =
    let here : (n == n) ≡ true = eq-eqb n n refl in
    let one = one_freed pool n (born n ∙ ap (λ t. t || is_among n ns) here) in
    let rest = born_counted ns (set pool n Free) (differ_tail n ns apart) (λ m.
    elim (n == m) as (λ t. (n == m) ≡ t → is_used_at (set pool n Free) m ≡ is_among m ns) [
      | true ↦ λ e. (let same : n ≡ m = eqb-true n m e in
          rw (sym same) (freed_there pool n ∙ sym (differ_head n ns apart)))
      | false ↦ λ e. (let ne : m ≢ n = λ same. true≢false (sym (eq-eqb n m (sym same)) ∙ e) in
          ap (is_at is_used) (set_else pool n m Free ne) ∙ born m ∙ ap (λ t. t || is_among m ns) e)
    ] refl) in
    omega arith

-- where none is left granted, the used are the born
pub used_born : (opened : ℕ → Bool) (last : ℕ) (pool : List BlockStatus)
    → ((n : ℕ) → IsDatedBlock (opened n) last (slice_get pool n))
    → count_by is_in_use pool ≡ count_by is_used pool
used_born opened last [] dated = refl
used_born opened last (s ∷ pool) dated =
    let a = count_more is_in_use s pool in
    let b = count_more is_used s pool in
    let here : (let k : ℕ = cond (is_in_use s) 1 0 in k) ≡ cond (is_used s) 1 0 = ap (λ t. cond t 1 0) (one s (dated 0)) in
    let rest = used_born (λ n. opened (suc n)) last pool (λ n. dated (suc n)) in
    omega arith where
      one : (t : BlockStatus) → IsDatedBlock (opened 0) last (Some t) → is_in_use t ≡ is_used t
      one Free is = refl
      one Granted is = absurd is
      one (Used birth) is = refl
      one (Retired birth retirement) is = refl

pub marked_over : (ns : List ℕ) (x y : BlockStatus) (pool : List BlockStatus) → marked ns y (marked ns x pool) ≡ marked ns y pool
marked_over ns x y pool = same_list _ _ (λ m.
    marked_at ns y (marked ns x pool) m ∙ ap (λ p. if is_among m ns then option_map (λ _. y) p else p) (marked_at ns x pool m)
    ∙ twice_marked (is_among m ns) (slice_get pool m) x y ∙ sym (marked_at ns y pool m))

pub zero_is : (blocks : ℕ) (v z : VersionView) (numbers : List ℕ) → AreFree (replicate blocks Free) numbers
    → numbers_of (blocks_of z.rows) ≡ numbers → IsVersion z → IsRebased v z → IsVersionZero blocks z
zero_is blocks v z numbers free same is rebased = grind (arith, common_steps, free_below)

pub zero_pool : (blocks : ℕ) (z : VersionView) (numbers : List ℕ) (fresh granted pool : List BlockStatus) (number : ℕ)
    → fresh ≡ replicate blocks Free → granted ≡ marked numbers Granted fresh → pool ≡ marked numbers (Used number) granted
    → number ≡ length z.batches → length z.batches ≡ 0 → numbers_of (blocks_of z.rows) ≡ numbers
    → pool ≡ (opened_desk blocks z).pool
zero_pool blocks z numbers fresh granted pool number f g p n none same = grind (arith, common_steps, marked_over)

pub blank_shown : (limits : LimitsView) (sessions blocks : ℕ)
    → ShowsWorld (opened_desk blocks (empty_version_in limits)) (start_world_in limits sessions blocks)
blank_shown limits sessions blocks = record {
  opening = refl;
  opened = refl;
  batches = refl;
  blocks = refl;
  edges = λ k d h. absurd (omega arith);
  status = refl;
  sizes = length-replicate blocks [] ∙ sym (length-replicate blocks Free);
}

-- no block was born with a later version than 0
abbrev AreFirst : List BlockStatus → Type 0
AreFirst pool = (k : ℕ) → birth_at pool k ≡ 0

set_first : (pool : List BlockStatus) (n k : ℕ) → AreFirst pool → birth_at (set pool n (Used 0)) k ≡ 0
set_first [] n k first = refl
set_first (s ∷ pool) zero zero first = refl
set_first (s ∷ pool) zero (suc k) first = first (suc k)
set_first (s ∷ pool) (suc n) zero first = first 0
set_first (s ∷ pool) (suc n) (suc k) first = set_first pool n k (λ m. first (suc m))

marked_first : (ns : List ℕ) (pool : List BlockStatus) → AreFirst pool → AreFirst (marked ns (Used 0) pool)
marked_first [] pool first = first
marked_first (n ∷ ns) pool first = marked_first ns (set pool n (Used 0)) (λ k. set_first pool n k first)

free_first : (n : ℕ) → AreFirst (replicate n Free)
free_first zero k = refl
free_first (suc n) zero = refl
free_first (suc n) (suc k) = free_first n k

pub first_opened : (blocks : ℕ) (d : DeskView) → d ≡ opened_desk blocks d.last → AreFirst d.pool
first_opened blocks d opened k =
    ap (λ (e : DeskView). birth_at e.pool k) opened
    ∙ marked_first (numbers_of (blocks_of d.last.rows)) (replicate blocks Free) (free_first blocks) k

pub length_opened : (blocks : ℕ) (d : DeskView) → d ≡ opened_desk blocks d.last → length d.pool ≡ blocks
length_opened blocks d opened =
    ap (λ (e : DeskView). length e.pool) opened
    ∙ (length-marked (numbers_of (blocks_of d.last.rows)) (Used 0) (replicate blocks Free) ∙ length_free blocks)

pub births_first : (row : List BlockView) (pool : List BlockStatus) → AreFirst pool
    → map (λ b. birth_at pool b.number) row ≡ map (λ (b : Shape). 0) (map shape_of row)
births_first [] pool first = refl
births_first (b ∷ row) pool first = ap₂ (λ n ns. n ∷ ns) (first b.number) (births_first row pool first)
