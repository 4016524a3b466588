-- Places in a mask and outside it, and the least and the greatest of the numbers there.
use Rattle.std.proofs.Common.{◌≡◌, ℕ, ◌<◌, ◌≤◌, true, false, ◌⊎◌, List, length, get_or, inl, inr, refl, sym, ap, ◌∙◌, arith}
use Rattle.std.proofs.lemmas.{Bool.{cases_lt, cases_eq, Decides.nat_tests}, Grind.common_steps}
use Rattle.std.proofs.lemmas.List.{Elements.{All-contains, Contains-get_or}, Folds.{list_any_at, list_any_none}}
use Rattle.std.proofs.lemmas.Nat.Bits.{bit_at_and, bit_at-lt}
use Rattle.std.specs.{Int.{bit_at, RustNames.bit_and}, List.list_any}
use Rattle.std.specs.{Prelude.{nat_lt, Contains, ◌↔◌, slice_index, ◌==◌, nat_le, ◌&&◌}, declared.option.Option.TheVariants.Some}
use Rattle.lane_scan.specs.Masks.{InMask, IsLeastOf, AreBoundsOf, IsPlaceWithin}

-- a live place is below the end of the places that are used
pub below_used : (live n k : ℕ) → ((place : ℕ) → n ≤ place → InMask live place → ⊥) → InMask live k → k < n
below_used live n k past lives = elim (cases_lt k n) [ inl below ↦ below | inr above ↦ absurd (past k above lives) ]

pub least_tells : (time least : ℕ) (values : List ℕ) → IsLeastOf values least
    → nat_lt least time ≡ list_any (λ value. nat_lt value time) values
least_tells time least values is =
    let (place, within, at) = is.reached in
    elim (nat_lt least time) as (λ b. nat_lt least time ≡ b → b ≡ list_any (λ value. nat_lt value time) values) [
      | true ↦ λ t. sym (list_any_at (λ value. nat_lt value time) values place least within (ap (λ v. nat_lt v time) at ∙ t))
      | false ↦ λ t. sym (list_any_none (λ value. nat_lt value time) values
          (λ k d l. let bound = is.bound k d l in grind (arith, nat_tests, bound, t)))
    ] refl

pub lives_or_not : (live i : ℕ) → InMask live i ⊎ (InMask live i → ⊥)
lives_or_not live i = cases_eq (bit_at live i) 1

-- bounds depend on the members alone
pub bounds_of_members : (xs ys : List ℕ) (times : ℕ × ℕ) → ((t : ℕ) → Contains xs t → Contains ys t)
    → ((t : ℕ) → Contains ys t → Contains xs t) →
    AreBoundsOf xs (Some times) → AreBoundsOf ys (Some times)
bounds_of_members xs ys times to from h = (
  record {
    reached = to times.0 h.0.reached;
    bound = λ k d within. All-contains (λ t. times.0 ≤ t) xs (get_or ys k d) h.0.bound
        (from (get_or ys k d) (Contains-get_or ys k d within));
  },
  record {
    reached = to times.1 h.1.reached;
    bound = λ k d within. All-contains (λ t. t ≤ times.1) xs (get_or ys k d) h.1.bound
        (from (get_or ys k d) (Contains-get_or ys k d within));
  },
)

-- a word with a bit is not 0
pub some_live : (live place : ℕ) → InMask live place → 0 < live
some_live live place lives = grind (arith, common_steps)

-- a time is in the window exactly where its place is in the window's mask
pub in_window : (mask live lo hi n time : ℕ) (rs : List ℕ) → (InMask mask n ↔ IsPlaceWithin rs live lo hi n) → n < length rs
    → InMask live n → time ≡ slice_index rs n →
    (bit_at mask n == 1) ≡ (nat_le lo time && nat_le time hi)
in_window mask live lo hi n time rs says within lives e = grind (arith, common_steps)

-- a place that is due is live
pub due_lives : (mask live i : ℕ) → InMask (bit_and mask live) i → InMask live i
due_lives mask live i due = omega (arith, bit_at_and mask live i, bit_at-lt live i)
