-- Numbers that are compared, bounded and counted on.
use Rattle.std.proofs.Common.{◌≡◌, ℕ, suc, ◌+◌, ◌-◌, ◌*◌, ◌^◌, ◌<◌, ◌≤◌, min, Bool, true, false, ◌&&◌, eqb, ltb, leb, ◌≢◌, ◌⊎◌}
use Rattle.std.proofs.Common.{◌==◌, Decides, inl, inr, refl, sym, ◌∙◌, arith}
use Rattle.std.proofs.Math.Nat.{mul-le-mul_right}
use Rattle.std.proofs.lemmas.Bool.{ltb-true, ltb-false, true_from_ne_false, eqb-false, eqb-true, true≢false, eq-eqb}
use Rattle.std.proofs.lemmas.{Bool.Decides.{nat_tests, eqb_tells}, Grind.common_steps}
use Rattle.std.specs.{Char.is_ascii_digit, Int.RustNames.bit_and, Ordering.{is_eq, ordering_then, nat_cmp}}
use Rattle.std.specs.{Prelude.{nat_le, nat_lt, nat_eq}, declared.cmp.Ordering.Ordering}
use lib.Bits.{and_le_r}

pub both_tied : (s t : Bool) (a b : Ordering) → s ≡ is_eq a → t ≡ is_eq b → (s && t) ≡ is_eq (ordering_then a b)
both_tied s t h2 b p q = grind (arith, common_steps)

pub nat_ties : (x y : ℕ) → (x == y) ≡ is_eq (nat_cmp x y)
nat_ties x y = grind (arith, nat_tests)

-- the window from 0 to before a time has the edges that are old at that time
pub in_window : (time recent : ℕ) → (time ≡ 0 → ⊥) → (nat_le 0 recent && nat_le recent (time - 1)) ≡ nat_lt recent time
in_window time recent some = grind (arith, nat_tests)

pub due_fits : (mask live : ℕ) → live < 2 ^ 32 → bit_and mask live < 2 ^ 32
due_fits mask live fits = omega (arith, and_le_r mask live)

pub lt_or_last : (i n : ℕ) → i < n + 1 → (i < n) ⊎ (i ≡ n)
lt_or_last i n lt = elim (eqb_tells i n) [ inl same ↦ inr same.1 | inr other ↦ inl (omega (arith, lt, other.1)) ]

-- what is not before a place, and not there, is behind it
pub further : (k i : ℕ) → i ≤ k → (k ≡ i → ⊥) → i + 1 ≤ k
further k i le n = grind (arith, common_steps, ltb-true, ltb-false)

pub no_more : (limit n : ℕ) → (limit < n → ⊥) → n ≤ limit
no_more limit n never = grind (arith, common_steps, ltb-true, ltb-false)

pub differs : (v w : ℕ) → v ≢ w → nat_eq v w ≡ false
differs v w ne = elim (eqb_tells v w) [ inl same ↦ absurd (ne same.1) | inr differ ↦ differ.0 ]

pub other : (t s : ℕ) → t ≢ s → eqb t s ≡ false
other t s ne = grind (arith, common_steps)

-- a count that stays below a bound
pub capped_more : (old new before after more bound : ℕ) → old ≡ min before bound → after ≡ before + more → new
    ≡ min (old + more) bound → new ≡ min after bound
capped_more old new before after more bound e f g = omega arith

pub is_below : (n end : ℕ) → ltb n end ≡ true → n < end
is_below n end is = grind (arith, nat_tests)

-- a limit that isn't passed
pub Decides-within : (n most : ℕ) → Decides (leb n most) ((most < n) → ⊥)
Decides-within n most = grind (arith, common_steps)

pub below : (n end : ℕ) → n < end → ltb n end ≡ true
below n end h = grind (arith, nat_tests)

pub not_below : (n end : ℕ) → end ≤ n → ltb n end ≡ false
not_below n end h = grind (arith, nat_tests)

pub same_number : (a : ℕ) → (a == a) ≡ true
same_number a = true_from_ne_false (a == a) (λ e. eqb-false a a e refl)

pub suc_test : (m n : ℕ) → (suc m == suc n) ≡ (m == n)
suc_test m n = grind (arith, common_steps)

-- the test of two numbers that differ
pub apart_test : (m n : ℕ) → m ≢ n → (m == n) ≡ false
apart_test m n ne = grind (arith, common_steps)

pub not_past : (m n : ℕ) → n ≤ m → nat_lt m n ≡ false
not_past m n le = grind (arith, common_steps)

pub place : (n p d v w digit : ℕ) → p ≡ n * 10 → w ≡ v * 10 + digit → d * p + w ≡ (d * n + v) * 10 + digit
place n p d v w digit a b = rw (a, b) (omega arith)

pub digit-le : (first : ℕ) → is_ascii_digit first ≡ true → first - 48 ≤ 9
digit-le first digit = grind (arith, nat_tests)

pub below_place : (d n v : ℕ) → d ≤ 9 → v < n → d * n + v < n * 10
below_place d n v small below = omega (arith, mul-le-mul_right n small)

pub same_or_not : (a b : ℕ) → (a ≡ b) ⊎ (a ≢ b)
same_or_not a b = elim (a == b) as (λ t. (a == b) ≡ t → (a ≡ b) ⊎ (a ≢ b)) [
  | true ↦ λ e. inl (eqb-true a b e)
  | false ↦ λ e. inr (λ same. true≢false (sym (eq-eqb a b same) ∙ e))
] refl
