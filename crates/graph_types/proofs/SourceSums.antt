-- Sums of a function over consecutive numbers, and edges counted by their sources.
use Rattle.std.proofs.Common.{◌≡◌, ℕ, zero, suc, ◌+◌, ◌<◌, ◌≤◌, Bool, true, false, cond, ◌&&◌, List, [], ◌∷◌, map, length, inl}
use Rattle.std.proofs.{Common.{inr, refl, sym, arith}, Math.Nat.eq-or-lt_of_le, lemmas.Bool.Decides.nat_tests}
use Rattle.std.proofs.lemmas.List.Sums.{sum_by-cons}
use Rattle.std.specs.{List.{zip, range_with_len}, Prelude.{◌==◌, All, count_by, sum_by}}
use Rattle.graph_types.specs.{Graph.{Key, Stamp}, View.{leaves, in_view}, declared.ids.{Degree.Degree, Filter.Filter}}

-- the sum over n numbers from a
abbrev sum_from : (ℕ → ℕ) → ℕ → ℕ → ℕ
sum_from w a zero = 0
sum_from w a (suc n) = w a + sum_from w (a + 1) n

sum_from-ext : (p q : ℕ → ℕ) → ((v : ℕ) → p v ≡ q v) → (a n : ℕ) → sum_from p a n ≡ sum_from q a n
sum_from-ext p q same a zero = refl
sum_from-ext p q same a (suc n) = omega (arith, same a, sum_from-ext p q same (a + 1) n)

sum_from-add : (p q : ℕ → ℕ) (a n : ℕ) → sum_from (λ v. p v + q v) a n ≡ sum_from p a n + sum_from q a n
sum_from-add p q a zero = refl
sum_from-add p q a (suc n) = omega (arith, sum_from-add p q (a + 1) n)

sum_from-zero : (a n : ℕ) → sum_from (λ v. 0) a n ≡ 0
sum_from-zero a zero = refl
sum_from-zero a (suc n) = omega (arith, sum_from-zero (a + 1) n)

miss : (s v : ℕ) → s < v → ◌≡◌ {A = ℕ} (cond (s == v) 1 0) 0
miss s v below = grind (arith, nat_tests)

miss-below : (s v : ℕ) → v < s → ◌≡◌ {A = ℕ} (cond (s == v) 1 0) 0
miss-below s v below = grind (arith, nat_tests)

hit : (s v : ℕ) → s ≡ v → ◌≡◌ {A = ℕ} (cond (s == v) 1 0) 1
hit s v same = grind (arith, nat_tests)

no_hit : (s a n : ℕ) → s < a → sum_from (λ v. cond (s == v) 1 0) a n ≡ 0
no_hit s a zero below = refl
no_hit s a (suc n) below = omega (arith, miss s a below, no_hit s (a + 1) n (omega arith))

-- one number among n is s
one_hit : (s a n : ℕ) → a ≤ s → s < a + n → sum_from (λ v. cond (s == v) 1 0) a n ≡ 1
one_hit s a zero from below = absurd (omega arith)
one_hit s a (suc n) from below = elim (eq-or-lt_of_le from) [
  | inl first ↦ omega (arith, hit s a (sym first), no_hit s (a + 1) n (omega arith))
  | inr later ↦ omega (arith, miss-below s a later, one_hit s (a + 1) n (omega arith) (omega arith))
]

one_shown : (b : Bool) (s n : ℕ) → s < n → ◌≡◌ {A = ℕ} (sum_from (λ v. cond (b && (s == v)) 1 0) 0 n) (cond b 1 0)
one_shown true s n below = one_hit s 0 n (omega arith) (omega arith)
one_shown false s n below = sum_from-zero 0 n

-- each edge in the view leaves one of the first n vertices
pub by_sources : (f : Filter) (es : List (Key × Stamp)) (n : ℕ) → All (λ e. e.0.source < n) es
    → sum_from (λ v. count_by (leaves f v) es) 0 n ≡ count_by (in_view f) es
by_sources f [] n all = sum_from-zero 0 n
by_sources f (e ∷ es) n all =
    let split = sum_from-ext (λ v. count_by (leaves f v) (e ∷ es))
    (λ v. cond (leaves f v e) 1 0 + count_by (leaves f v) es)
    (λ v. sum_by-cons (λ e. cond (leaves f v e) 1 0) e es) 0 n in
    let added = sum_from-add (λ v. cond (leaves f v e) 1 0) (λ v. count_by (leaves f v) es) 0 n in
    let one = one_shown (in_view f e) e.0.source n (all 0 e (omega arith)) in
    let rest = by_sources f es n (λ k d h. all (suc k) d (omega arith)) in
    let counted = sum_by-cons (λ e. cond (in_view f e) 1 0) e es in
    omega (arith, split, added, one, rest, counted)

-- a table's column of out-degrees, added up
pub column : (h : ℕ → Degree) (names : List (List ℕ)) (a : ℕ)
    → sum_by (λ entry. entry.1.outgoing) (zip names (map h (range_with_len a (length names))))
    ≡ sum_from (λ v. (h v).outgoing) a (length names)
column h [] a = refl
column h (name ∷ names) a =
    let first = sum_by-cons (λ (entry : List ℕ × Degree). entry.1.outgoing) (name, h a)
    (zip names (map h (range_with_len (a + 1) (length names)))) in
    omega (arith, first, column h names (a + 1))
