-- The least of a number and of pins; and what a copy needs.
use Rattle.std.proofs.Common.{◌≡◌, ℕ, zero, suc, ◌<◌, ◌≤◌, ◌⊎◌, inl, inr, min, Bool, true, false, ◌||◌, List, [], ◌∷◌, get_or}
use Rattle.std.proofs.{Common.{Option, Some, None, refl, sym, ap, ◌∙◌, arith, ltb}, lemmas.Bool.{cases_lt, or_left, or_right, Decides.nat_tests}}
use Rattle.std.specs.List.{list_any}
use Rattle.block_reclamation.specs.declared.copies.PinCopy.{PinCopy}
use Rattle.block_reclamation.specs.Copies.{lesser, least_of, reach_of, is_between, is_pin_before, needs}

lesser_below : (n : ℕ) (o : Option ℕ) → lesser n o ≤ n
lesser_below n None = omega arith
lesser_below n (Some m) = omega arith

pub least_below : (n : ℕ) (xs : List (Option ℕ)) → least_of n xs ≤ n
least_below n [] = omega arith
least_below n (x ∷ xs) = let rest = least_below (lesser n x) xs in let here = lesser_below n x in omega arith

pub least_each : (n : ℕ) (xs : List (Option ℕ)) (s p : ℕ) → get_or xs s None ≡ Some p → least_of n xs ≤ p
least_each n [] s p is = cc
least_each n (x ∷ xs) zero p is =
    let rest = least_below (lesser n x) xs in
    let here : lesser n x ≡ min n p = ap (lesser n) is in
    omega arith
least_each n (x ∷ xs) (suc s) p is = least_each (lesser n x) xs s p is

-- the least is the number, or one of the pins
abbrev pub Reached : ℕ → List (Option ℕ) → ℕ → Type 0
Reached n xs m = (m ≡ n) ⊎ ((s : ℕ) × (get_or xs s None ≡ Some m))

lesser_is : (n : ℕ) (o : Option ℕ) → (lesser n o ≡ n) ⊎ (o ≡ Some (lesser n o))
lesser_is n None = inl refl
lesser_is n (Some m) = elim (cases_lt n m) [
  | inl low ↦ inl (omega arith)
  | inr high ↦ let e : m ≡ min n m = omega arith in inr (ap Some e)
]

pub least_reached : (n : ℕ) (xs : List (Option ℕ)) → Reached n xs (least_of n xs)
least_reached n [] = inl refl
least_reached n (x ∷ xs) = elim (least_reached (lesser n x) xs) [
  | inl is ↦ elim (lesser_is n x) [
    | inl first ↦ inl (is ∙ first)
    | inr one ↦ inr (zero, one ∙ ap Some (sym is))
  ]
  | inr later ↦ inr (suc later.0, later.1)
]

-- what a test finds at one seat, it finds
pub any_at : (p : Option ℕ → Bool) (xs : List (Option ℕ)) (s n : ℕ) → get_or xs s None ≡ Some n → p (Some n) ≡ true
    → list_any p xs ≡ true
any_at p [] s n at holds = cc
any_at p (x ∷ xs) zero n at holds = ap (λ t. t || list_any p xs) (ap p at ∙ holds)
any_at p (x ∷ xs) (suc s) n at holds =
    elim (p x) as (λ t. (t || list_any p xs) ≡ true) [
      | true ↦ refl
      | false ↦ any_at p xs s n at holds
    ]

-- what was retired after the last number, what a settled pin lies between, and what an unsettled pin lies below
pub late_needed : (copy : PinCopy) (birth retirement : ℕ) → copy.last < retirement → needs copy birth retirement ≡ true
late_needed copy birth retirement late = or_left (ltb copy.last retirement) _ (grind (arith, nat_tests, late))

pub settled_needed : (copy : PinCopy) (birth retirement s p : ℕ) → get_or copy.settled s None ≡ Some p → birth ≤ p → p < retirement
    → needs copy birth retirement ≡ true
settled_needed copy birth retirement s p at born before =
    or_right (ltb copy.last retirement) _
    (or_left (list_any (is_between birth retirement) copy.settled) _
    (any_at (is_between birth retirement) copy.settled s p at (grind (arith, nat_tests, born, before))))

pub unsettled_needed : (copy : PinCopy) (birth retirement s p : ℕ) → get_or copy.unsettled s None ≡ Some p → p < retirement
    → needs copy birth retirement ≡ true
unsettled_needed copy birth retirement s p at before =
    or_right (ltb copy.last retirement) _
    (or_right (list_any (is_between birth retirement) copy.settled) _
    (any_at (is_pin_before retirement) copy.unsettled s p at (grind (arith, nat_tests, before))))

pub reach_needed : (copy : PinCopy) (birth retirement : ℕ) → reach_of copy < retirement → needs copy birth retirement ≡ true
reach_needed copy birth retirement late =
    elim (least_reached copy.last copy.unsettled) [
      | inl is ↦ late_needed copy birth retirement (omega (arith, is, late))
      | inr one ↦ unsettled_needed copy birth retirement one.0 (reach_of copy) one.1 late
    ]
