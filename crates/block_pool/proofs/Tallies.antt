-- Lists of the numbers that have a status.
use Rattle.std.proofs.Common.{◌≡◌, ℕ, zero, suc, ◌+◌, ◌-◌, ◌<◌, ◌≤◌, ◌==◌, List, [], ◌∷◌, ◌++◌, length, get_or, set, map}
use Rattle.std.proofs.Common.{subst, replicate, count_by, take, Bool, true, false, cond, ◌&&◌, refl, sym, ap, ap₂, ◌∙◌, arith}
use Rattle.std.proofs.lemmas.Bool.{false≢true, eqb-true, and_parts}
use Rattle.std.specs.Prelude.{slice_get}
use Rattle.std.proofs.lemmas.Grind.{common_steps}
use Rattle.block_reclamation.specs.declared.{copies.PinCopy.PinCopy, status.BlockStatus.{BlockStatus, TheVariants.Free}}
use Rattle.block_reclamation.specs.{declared.status.BlockStatus.TheVariants.{Granted, Used}, Status.{is_free, is_in_use}}
use Rattle.block_reclamation.specs.Status.{is_used, is_retired, is_reclaimable, recycled, is_at}
use Rattle.block_reclamation.proofs.OneStatus.{used_not_free, used_not_retired, used_is}
use Rattle.graph_types.proofs.{Numbers.same_number, Sums.{count_more, count_true, count_last, count_at}}
use Rattle.block_pool.specs.Kept.{status_of, tally, Lists}

pub tally_true : (p : BlockStatus → Bool) (i : ℕ) (pool : List BlockStatus) → tally p (λ _. true) i pool ≡ count_by p pool
tally_true p i [] = refl
tally_true p i (s ∷ pool) =
    ap₂ (λ a b. a + b) (one (p s)) (tally_true p (i + 1) pool) ∙ sym (count_more p s pool) where
      one : (b : Bool) → (let x : ℕ = cond (b && true) 1 0 in x) ≡ cond b 1 0
      one true = refl
      one false = refl

pub tally_set : (p : BlockStatus → Bool) (q : ℕ → Bool) (i : ℕ) (pool : List BlockStatus) (k : ℕ) (s d : BlockStatus) → k < length pool
    → tally p q i (set pool k s) + cond (p (get_or pool k d) && q (i + k)) 1 0 ≡ tally p q i pool + cond (p s && q (i + k)) 1 0
tally_set p q i [] k s d lt = absurd (omega arith)
tally_set p q i (x ∷ pool) zero s d lt =
    let same : i + 0 ≡ i = omega arith in
    rw same (swap (cond (p s && q i) 1 0) (tally p q (i + 1) pool) (cond (p x && q i) 1 0)) where
      swap : (a b c : ℕ) → (a + b) + c ≡ (c + b) + a
      swap a b c = omega arith
tally_set p q i (x ∷ pool) (suc k) s d lt =
    let rest = tally_set p q (i + 1) pool k s d (omega arith) in
    let at : i + 1 + k ≡ i + suc k = omega arith in
    let here = rw at at rest in
    omega arith

pub tally_at : (p : BlockStatus → Bool) (k i : ℕ) (pool : List BlockStatus) (d : BlockStatus) → 1 ≤ tally p (λ n. n == k) i pool
    → (i ≤ k) × (k < i + length pool) × (p (get_or pool (k - i) d) ≡ true)
tally_at p k i [] d h = absurd (omega arith)
tally_at p k i (s ∷ pool) d h =
    elim (p s && (i == k)) as (λ b. p s && (i == k) ≡ b → 1 ≤ cond b 1 0 + tally p (λ n. n == k) (i + 1) pool
    → (i ≤ k) × (k < i + suc (length pool)) × (p (get_or (s ∷ pool) (k - i) d) ≡ true)) [
      | true ↦ λ t _.
          let parts = and_parts (p s) (i == k) t in
          let same : i ≡ k = eqb-true i k parts.1 in
          (omega arith, omega arith, subst (λ n. p (get_or (s ∷ pool) n d) ≡ true) (let z : 0 ≡ k - i = omega arith in z) parts.0)
      | false ↦ λ t g.
          let rest = tally_at p k (i + 1) pool d (omega arith) in (
            omega arith,
            omega arith,
            subst (λ n. p (get_or (s ∷ pool) n d) ≡ true)
                (let z : suc (k - (i + 1)) ≡ k - i = omega arith in z) rest.2,
          )
    ] refl h

pub count_lt : (p : BlockStatus → Bool) (pool : List BlockStatus) (k : ℕ) (d : BlockStatus) → k < length pool → p (get_or pool k d) ≡ false
    → count_by p pool < length pool
count_lt p [] k d lt e = absurd (omega arith)
count_lt p (s ∷ pool) zero d lt e =
    let m = count_more p s pool in
    let n : (let x : ℕ = cond (p s) 1 0 in x) ≡ 0 = ap (λ b. cond b 1 0) e in
    let le = Rattle.std.proofs.lemmas.List.Sums.count_by-le-length p pool in omega arith
count_lt p (s ∷ pool) (suc k) d lt e =
    let m = count_more p s pool in let rest = count_lt p pool k d (omega arith) e in
    elim (p s) as (λ b. count_by p (s ∷ pool) ≡ cond b 1 0 + count_by p pool → count_by p (s ∷ pool) < suc (length pool)) [
      | true ↦ λ z. omega arith
      | false ↦ λ z. omega arith
    ] m

-- one status changed
pub tally_here : (p : BlockStatus → Bool) (q : ℕ → Bool) (pool : List BlockStatus) (k : ℕ) (s : BlockStatus) → k < length pool
    → tally p q 0 (set pool k s) + cond (p (status_of pool k) && q k) 1 0 ≡ tally p q 0 pool + cond (p s && q k) 1 0
tally_here p q pool k s lt = let z : 0 + k ≡ k = omega arith in rw z at (tally_set p q 0 pool k s Granted lt)

pub count_kept : (p : BlockStatus → Bool) (pool : List BlockStatus) (k : ℕ) (s : BlockStatus) → k < length pool
    → p (status_of pool k) ≡ p s → count_by p (set pool k s) ≡ count_by p pool
count_kept p pool k s lt same = grind (arith, common_steps)

module _ (p : BlockStatus → Bool) (pool : List BlockStatus) (ns : List ℕ) (are : Lists p pool ns) where
  pub listed_count : length ns ≡ count_by p pool
  listed_count = sym (count_true ns) ∙ are (λ _. true) ∙ tally_true p 0 pool

  module _ (k : ℕ) (s : BlockStatus) (lt : k < length pool) where
    pub lists_more : p (status_of pool k) ≡ false → p s ≡ true → Lists p (set pool k s) (ns ++ k ∷ [])
    lists_more a b q = grind (arith, common_steps, count_last, tally_here)

    pub lists_same : p (status_of pool k) ≡ p s → Lists p (set pool k s) ns
    lists_same e q = grind (arith, common_steps, tally_here)

    pub lists_less : (ms : List ℕ) → ((q : ℕ → Bool) → count_by q ns ≡ count_by q ms + cond (q k) 1 0)
        → p (status_of pool k) ≡ true → p s ≡ false → Lists p (set pool k s) ms
    lists_less ms cut a b q = grind (arith, common_steps, tally_here)

  pub lists_room : (k : ℕ) → k < length pool → p (status_of pool k) ≡ false → length ns < length pool
  lists_room k lt out = let c = count_lt p pool k Granted lt out in let l = listed_count in omega arith

-- a listed number is one of the pool's, and its status passes
pub listed_at : (p : BlockStatus → Bool) (pool : List BlockStatus) (n : ℕ) (room : List ℕ) → Lists p pool (take n room) → n ≤ length room
    → (i : ℕ) → i < n
    → (get_or room i 0 < length pool) × (p (status_of pool (get_or room i 0)) ≡ true)
listed_at p pool n room are le i lt =
    let r : ℕ = get_or room i 0 in
    let here : get_or (take n room) i 0 ≡ r = Rattle.std.proofs.lemmas.List.get_or-take n room i 0 lt in
    let short : i < length (take n room) = omega (arith, Rattle.std.proofs.Common.length-take n room) in
    let once = count_at (λ k. k == r) (take n room) i 0 short (ap (λ k. k == r) here ∙ same_number r) in
    let same = are (λ k. k == r) in
    let at = tally_at p r 0 pool Granted (omega arith) in
    (omega (arith, at.1), subst (λ k. p (get_or pool k Granted) ≡ true) (let z : r - 0 ≡ r = omega arith in z) at.2)

tally_has : (p : BlockStatus → Bool) (k i : ℕ) (pool : List BlockStatus) → k < length pool → p (status_of pool k) ≡ true
    → 1 ≤ tally p (λ n. n == i + k) i pool
tally_has p k i [] lt e = absurd (omega arith)
tally_has p zero i (s ∷ pool) lt e =
    let z : i + 0 ≡ i = omega arith in
    rw (z, e, same_number i) (omega arith)
tally_has p (suc k) i (s ∷ pool) lt e =
    let rest = tally_has p k (i + 1) pool (omega arith) e in
    let z : i + 1 + k ≡ i + suc k = omega arith in
    let again = rw z at rest in
    omega arith

-- a number whose status passes is tallied
pub tally_has_one : (p : BlockStatus → Bool) (k : ℕ) (pool : List BlockStatus) → k < length pool → p (status_of pool k) ≡ true
    → 1 ≤ tally p (λ n. n == k) 0 pool
tally_has_one p k pool lt e = let z : 0 + k ≡ k = omega arith in rw z at (tally_has p k 0 pool lt e)

-- recycling, one number at a time
module _ (copy : PinCopy) where
  due_free : (s : BlockStatus) → is_reclaimable copy s ≡ true → recycled copy Free ≡ recycled copy s
  due_free s e = ap (λ b. cond b Free s) (sym e)

  pub recycled_set : (pool : List BlockStatus) (k : ℕ) → is_reclaimable copy (status_of pool k) ≡ true
      → map (recycled copy) (set pool k Free) ≡ map (recycled copy) pool
  recycled_set pool k e = Rattle.std.proofs.Math.Seq.map-set_same (recycled copy) pool k Free Granted
      (due_free (status_of pool k) e)

  pub past_set : (pool : List BlockStatus) (k : ℕ) → k < length pool → is_reclaimable copy (status_of pool k) ≡ true
      → count_by (is_reclaimable copy) (set pool k Free) + 1 ≡ count_by (is_reclaimable copy) pool
  past_set pool k lt e = grind (arith, common_steps)

  pub none_past : (pool : List BlockStatus) → ((k : ℕ) → k < length pool → is_reclaimable copy (status_of pool k) ≡ false)
      → (map (recycled copy) pool ≡ pool) × (count_by (is_reclaimable copy) pool ≡ 0)
  none_past [] none = (refl, refl)
  none_past (s ∷ pool) none =
      let here : is_reclaimable copy s ≡ false = none 0 (omega arith) in
      let rest = none_past pool (λ k lt. none (suc k) (omega arith)) in
      let m = count_more (is_reclaimable copy) s pool in
      let zero_here : (let x : ℕ = cond (is_reclaimable copy s) 1 0 in x) ≡ 0 = ap (λ b. cond b 1 0) here in
      let c = rest.1 in
      (ap₂ (λ x xs. x ∷ xs) (ap (λ b. cond b Free s) here) rest.0, omega arith)

-- a number whose status passes is one of the pool's
pub within_pool : (p : BlockStatus → Bool) (pool : List BlockStatus) (n : ℕ) → is_at p (slice_get pool n) ≡ true
    → (n < length pool) × (p (status_of pool n) ≡ true)
within_pool p [] n e = absurd (false≢true e)
within_pool p (s ∷ pool) zero e = (omega arith, e)
within_pool p (s ∷ pool) (suc n) e = let rest = within_pool p pool n e in (omega (arith, rest.0), rest.1)

pub passes_at : (p : BlockStatus → Bool) (pool : List BlockStatus) (n : ℕ) → n < length pool → p (status_of pool n) ≡ true
    → is_at p (slice_get pool n) ≡ true
passes_at p [] n lt e = absurd (omega arith)
passes_at p (s ∷ pool) zero lt e = e
passes_at p (s ∷ pool) (suc n) lt e = passes_at p pool n (omega arith) e

pub record IsUsedAt (pool : List BlockStatus) (n : ℕ) : Type 0 where
  pub within : n < length pool
  pub not_free : is_free (status_of pool n) ≡ false
  pub not_retired : is_retired (status_of pool n) ≡ false

pub used_at : (pool : List BlockStatus) (n : ℕ) → is_at is_in_use (slice_get pool n) ≡ true → IsUsedAt pool n
used_at pool n e = grind (arith, common_steps, within_pool, used_not_free, used_not_retired)

pub born_at : (pool : List BlockStatus) (n : ℕ) → is_at is_used (slice_get pool n) ≡ true
    → (n < length pool) × ((birth : ℕ) × (status_of pool n ≡ Used birth))
born_at pool n e = let at = within_pool is_used pool n e in (at.0, used_is (status_of pool n) at.1)

pub tally_last : (p : BlockStatus → Bool) (q : ℕ → Bool) (i : ℕ) (pool : List BlockStatus) (s : BlockStatus)
    → tally p q i (pool ++ s ∷ []) ≡ tally p q i pool + cond (p s && q (i + length pool)) 1 0
tally_last p q i [] s = let z : i + 0 ≡ i = omega arith in rw z (Rattle.std.proofs.Common.add_comm (cond (p s && q i) 1 0) 0)
tally_last p q i (t ∷ pool) s =
    let rest = tally_last p q (i + 1) pool s in
    let z : i + 1 + length pool ≡ i + suc (length pool) = omega arith in
    let again = rw z at rest in
    omega arith

-- one free number more, at the end
pub free_more : (k : ℕ) (ns : List ℕ) → Lists is_free (replicate k Free) ns
    → Lists is_free (replicate (k + 1) Free) (ns ++ k ∷ [])
free_more k ns are q = grind (arith, common_steps, tally_last, count_last)

-- of free numbers alone, none is retired
pub none_retired : (q : ℕ → Bool) (i k : ℕ) → tally is_retired q i (replicate k Free) ≡ 0
none_retired q i zero = refl
none_retired q i (suc k) = let rest = none_retired q (i + 1) k in omega arith
