-- What calls on one element do to the whole.
use Rattle.std.proofs.Common.{◌≡◌, ℕ, ◌<◌, ◌≤◌, List, length, get_or, set, refl, sym, ap, subst, ◌∙◌}
use Rattle.std.proofs.lemmas.{List.set-get_or, Option.slice_get_past, Option.slice_get-get_or}
use Rattle.std.specs.{Prelude.slice_get, Option.option_and_then, declared.option.Option.{Option, TheVariants.{None, Some}}}
use Rattle.epoch_core.specs.{Blocks.{changed_at, put_if_some, Stepped}, declared.step.Step.{Step, TheVariants.Skipped}}

put_at : {A : Type 0} (o : Option A) (xs : List A) (i : ℕ) (d : A) (outcome : Step) (new : A)
    → Stepped o outcome (get_or xs i d) new → Stepped (put_if_some xs i o) outcome xs (set xs i new)
put_at None xs i d outcome new is = (is.0, ap (set xs i) is.1 ∙ set-get_or xs i d)
put_at (Some after) xs i d outcome new is = (is.0, ap (set xs i) is.1)

-- a step of the element at i is a step of the list
pub stepped_at : {A : Type 0} (change : A → Option A) (xs : List A) (i : ℕ) (x : A) (outcome : Step) (new : A)
    → i < length xs → x ≡ get_or xs i x → Stepped (change x) outcome x new
    → Stepped (changed_at change xs i) outcome xs (set xs i new)
stepped_at change xs i x outcome new lt at is =
    let found : slice_get xs i ≡ Some (get_or xs i x) = slice_get-get_or xs i x lt in
    subst (λ o. Stepped (put_if_some xs i (option_and_then change o)) outcome xs (set xs i new)) (sym found)
    (put_at (change (get_or xs i x)) xs i x outcome new (subst (λ y. Stepped (change y) outcome y new) at is))

-- a step of an element that isn't there, and of one that can't make it
pub stepped_past : {A : Type 0} (change : A → Option A) (xs : List A) (i : ℕ) → length xs ≤ i
    → Stepped (changed_at change xs i) Skipped xs xs
stepped_past change xs i past =
    subst (λ o. Stepped (put_if_some xs i (option_and_then change o)) Skipped xs xs) (sym (slice_get_past xs i past)) (refl, refl)

pub stays_at : {A : Type 0} (change : A → Option A) (xs : List A) (i : ℕ) (x : A) → i < length xs → x ≡ get_or xs i x
    → change x ≡ None → Stepped (changed_at change xs i) Skipped xs xs
stays_at change xs i x lt at none =
    let found : slice_get xs i ≡ Some x = slice_get-get_or xs i x lt ∙ ap (λ y. Some y) (sym at) in
    subst (λ o. Stepped (put_if_some xs i o) Skipped xs xs) (sym (ap (option_and_then change) found ∙ none)) (refl, refl)
