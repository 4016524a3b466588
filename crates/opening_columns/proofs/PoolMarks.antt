-- Numbers of a pool that are granted, and then born.
use Rattle.std.proofs.Common.{◌≡◌, ◌≢◌, ◌<◌, ◌==◌, ◌∙◌, ◌++◌, ◌∷◌, [], ℕ, zero, suc, true, false, List, All, refl, sym, ap, subst, arith, inl, inr, length, set, replicate}
use Rattle.std.proofs.lemmas.{Bool.{or_from, or_parts, ne_eqb, eqb-false, Decides.eqb_tells}, List.{length-set, length-replicate, Elements.{All-nil, All-cons, All-head, All-tail}}}
use Rattle.std.specs.Prelude.{slice_get, map, AllPairs}
use Rattle.std.specs.{Arc.arc_value, declared.{sync.Arc.Arc, alloc.Global.Global}}
use Rattle.block_reclamation.specs.{Status.{is_among, is_in_use}, declared.status.BlockStatus.BlockStatus}
use Rattle.block_reclamation.specs.declared.status.BlockStatus.TheVariants.{Free, Granted, Used}
use Rattle.graph_types.{specs.declared.ids.Edge.Edge, proofs.ListPlaces.{set_else, same_list}}
use Rattle.edge_block.specs.{Slots.BlockView, declared.blocks.Block.Block}
use Rattle.block_pool.{specs.Pools.{marked, is_in_use_at, AreFree}, proofs.{Grants.length-marked, Marked.free_below}}
use Rattle.graph_version.specs.{Rows.numbers_of, Sharing.{block_value, block_values}}
use Rattle.opening_columns.specs.{Openings.AreLaidOut, Runs.{AreFilled, AreRuns}}

-- lists that agree but at numbers are the same once these are marked
same_place : (xs ys : List BlockStatus) (m : ℕ) (y : BlockStatus) → length xs ≡ length ys
    → slice_get (set xs m y) m ≡ slice_get (set ys m y) m
same_place [] [] m y long = refl
same_place (a ∷ xs) [] m y long = absurd (omega arith)
same_place [] (b ∷ ys) m y long = absurd (omega arith)
same_place (a ∷ xs) (b ∷ ys) zero y long = refl
same_place (a ∷ xs) (b ∷ ys) (suc m) y long = same_place xs ys m y (omega arith)

set_agrees : (xs ys : List BlockStatus) (m k : ℕ) (y : BlockStatus) → length xs ≡ length ys
    → (k ≢ m → slice_get xs k ≡ slice_get ys k) → slice_get (set xs m y) k ≡ slice_get (set ys m y) k
set_agrees xs ys m k y long else = elim (eqb_tells k m) [
  | inl same ↦ subst (λ (n : ℕ). slice_get (set xs m y) n ≡ slice_get (set ys m y) n) (sym same.1) (same_place xs ys m y long)
  | inr apart ↦ set_else xs m k y apart.1 ∙ else apart.1 ∙ sym (set_else ys m k y apart.1)
]

agree : (ns : List ℕ) (xs ys : List BlockStatus) (y : BlockStatus) → length xs ≡ length ys
    → ((k : ℕ) → is_among k ns ≡ false → slice_get xs k ≡ slice_get ys k) → marked ns y xs ≡ marked ns y ys
agree [] xs ys y long off = same_list xs ys (λ k. off k refl)
agree (m ∷ ns) xs ys y long off =
    agree ns (set xs m y) (set ys m y) y (length-set xs m y ∙ long ∙ sym (length-set ys m y))
    (λ k out. set_agrees xs ys m k y long
    (λ ne. off k (or_from (m == k) (is_among k ns) (ne_eqb m k (λ same. ne (sym same))) out)))

untouched : (ns : List ℕ) (xs : List BlockStatus) (x : BlockStatus) (k : ℕ) → is_among k ns ≡ false
    → slice_get (marked ns x xs) k ≡ slice_get xs k
untouched [] xs x k out = refl
untouched (m ∷ ns) xs x k out =
    let parts = or_parts (m == k) (is_among k ns) out in
    untouched ns (set xs m x) x k parts.1 ∙ set_else xs m k x (λ same. eqb-false m k parts.0 (sym same))

marked_again : (ns : List ℕ) (x y : BlockStatus) (xs : List BlockStatus) → marked ns y (marked ns x xs) ≡ marked ns y xs
marked_again ns x y xs = agree ns (marked ns x xs) xs y (length-marked ns x xs) (untouched ns xs x)

-- what is in use stays so
stays : (pool : List BlockStatus) (m k : ℕ) (s : BlockStatus) → is_in_use s ≡ true → is_in_use_at pool k ≡ true
    → is_in_use_at (set pool m s) k ≡ true
stays [] m k s new is = is
stays (a ∷ pool) zero zero s new is = new
stays (a ∷ pool) zero (suc k) s new is = is
stays (a ∷ pool) (suc m) zero s new is = is
stays (a ∷ pool) (suc m) (suc k) s new is = stays pool m k s new is

here : (pool : List BlockStatus) (m : ℕ) (s : BlockStatus) → m < length pool → is_in_use s ≡ true → is_in_use_at (set pool m s) m ≡ true
here [] m s lt new = absurd (omega arith)
here (a ∷ pool) zero s lt new = new
here (a ∷ pool) (suc m) s lt new = here pool m s (omega arith) new

pub marks_stay : (ns : List ℕ) (pool : List BlockStatus) (k : ℕ) (s : BlockStatus) → is_in_use s ≡ true → is_in_use_at pool k ≡ true
    → is_in_use_at (marked ns s pool) k ≡ true
marks_stay [] pool k s new is = is
marks_stay (m ∷ ns) pool k s new is = marks_stay ns (set pool m s) k s new (stays pool m k s new is)

in_use : (ns : List ℕ) (pool : List BlockStatus) (s : BlockStatus) → is_in_use s ≡ true → All (λ n. n < length pool) ns
    → All (λ n. is_in_use_at (marked ns s pool) n ≡ true) ns
in_use [] pool s new lt = All-nil (λ n. is_in_use_at pool n ≡ true)
in_use (m ∷ ns) pool s new lt =
    All-cons (λ n. is_in_use_at (marked ns s (set pool m s)) n ≡ true) m ns
    (marks_stay ns (set pool m s) m s new (here pool m s (All-head (λ n. n < length pool) m ns lt) new))
    (in_use ns (set pool m s) s new
    (subst (λ (l : ℕ). All (λ n. n < l) ns) (sym (length-set pool m s)) (All-tail (λ n. n < length pool) m ns lt)))

pub granted_in_use : (blocks : ℕ) (numbers : List ℕ) (fresh pool : List BlockStatus) → fresh ≡ replicate blocks Free → AreFree fresh numbers
    → pool ≡ marked numbers Granted fresh → All (λ n. is_in_use_at pool n ≡ true) numbers
granted_in_use blocks numbers fresh pool is free granted =
    let below = free_below blocks numbers (subst (λ (p : List BlockStatus). AreFree p numbers) is free) in
    let long : length fresh ≡ blocks = ap length is ∙ length-replicate blocks Free in
    subst (λ (p : List BlockStatus). All (λ n. is_in_use_at p n ≡ true) numbers) (sym granted)
    (in_use numbers fresh Granted refl (subst (λ (l : ℕ). All (λ n. n < l) numbers) (sym long) below))

pub marked_push : (ns : List ℕ) (n : ℕ) (x : BlockStatus) (pool : List BlockStatus)
    → marked (ns ++ n ∷ []) x pool ≡ marked (n ∷ []) x (marked ns x pool)
marked_push [] n x pool = refl
marked_push (m ∷ ns) n x pool = marked_push ns n x (set pool m x)

-- the numbers of shared blocks
block_numbers : (xs : List (Arc Block Global)) → numbers_of (block_values xs) ≡ map (λ b. (arc_value {X = Block} b).number) xs
block_numbers [] = refl
block_numbers (x ∷ xs) = ap (λ (ns : List ℕ). (block_value x).number ∷ ns) (block_numbers xs)

pub granted_numbers : (old : List (Arc Block Global)) (new : List BlockView) (numbers : List ℕ)
    → map (λ b. (arc_value {X = Block} b).number) old ≡ numbers → numbers_of new ≡ numbers_of (block_values old) → numbers_of new ≡ numbers
granted_numbers old new numbers are same = same ∙ block_numbers old ∙ are

-- so blocks that were granted, filled and born are those of the pool that aren't free
pub laid_is : (blocks : ℕ) (edges : List Edge) (runs : List (List Edge)) (bs : List BlockView) (numbers : List ℕ)
    (fresh granted pool : List BlockStatus) → AreRuns edges runs → AreFilled runs bs → numbers_of bs ≡ numbers
    → fresh ≡ replicate blocks Free → AreFree fresh numbers → granted ≡ marked numbers Granted fresh
    → pool ≡ marked numbers (Used 0) granted → AreLaidOut blocks edges bs pool
laid_is blocks edges runs bs numbers fresh granted pool are filled same is free was born =
    let begun : AreFree (replicate blocks Free) numbers = subst (λ (p : List BlockStatus). AreFree p numbers) is free in
    record {
      runs = runs;
      are = are;
      filled = filled;
      distinct = subst (AllPairs ◌≢◌) (sym same) free.distinct;
      within = subst (All (λ n. n < blocks)) (sym same) (free_below blocks numbers begun);
      pool_is = born ∙ ap (marked numbers (Used 0)) (was ∙ ap (marked numbers Granted) is)
          ∙ marked_again numbers Granted (Used 0) (replicate blocks Free)
          ∙ ap (λ (ns : List ℕ). marked ns (Used 0) (replicate blocks Free)) (sym same);
    }
