-- Scans that end at the last place of a mask.
use Rattle.std.proofs.Common.{◌≡◌, ℕ, zero, suc, ◌+◌, ◌*◌, ◌^◌, ◌<◌, ◌≤◌, List, [], ◌∷◌, length, get_or, take, refl, sym, ap, ◌∙◌}
use Rattle.std.proofs.{Common.{arith, inl, inr}, lemmas.{Bool.{ne_eqb, cases_lt}, Nat.{leading_length, Bits.bit_at_above}}}
use Rattle.std.proofs.lemmas.List.{length-take, get_or-take, take_all}
use Rattle.std.specs.{Prelude.slice_index, Int.bit_at, Int.w32, Int.leading_zeros}
use Rattle.lane_scan.{specs.Masks.{InMask, IsUsedPart, IsPlaceWithin, selected_from, selected}, proofs.Selected.same_after}

-- no bit stands past the highest one
pub past_highest : (mask place : ℕ) → mask < 2 ^ 32 → 32 ≤ place + leading_zeros w32 mask → InMask mask place → ⊥
past_highest mask place fits past set =
    let bits : (m : ℕ) × (leading_zeros w32 mask + m ≡ 32) × (mask < 2 ^ m) × (2 ^ m ≤ 2 * mask + 1) =
    leading_length 32 mask fits in
    omega (arith, bit_at_above mask bits.0 place bits.2 (omega (arith, bits.1)))

-- a part of a list, and the whole list
pub used_first : {X : Type 0} (mask n : ℕ) (xs : List X) → n ≤ length xs
    → ((place : ℕ) → n ≤ place → place < length xs → InMask mask place → ⊥) →
    IsUsedPart mask xs (take n xs)
used_first mask n xs few past =
    let long : length (take n xs) ≡ n = omega (arith, length-take n xs) in
    record { part = ap (λ m. take m xs) (sym long); past = λ place above. past place (omega arith) }

pub used_whole : {X : Type 0} (mask : ℕ) (xs : List X) → IsUsedPart mask xs xs
used_whole mask xs =
    record { part = sym (take_all (length xs) xs (omega arith)); past = λ place above within. absurd (omega arith) }

pub used_few : {X : Type 0} (mask : ℕ) (xs used : List X) → IsUsedPart mask xs used → length used ≤ length xs
used_few mask xs used h = omega (arith, ap length h.part, length-take (length used) xs)

pub used_at : (mask : ℕ) (xs used : List ℕ) (place : ℕ) → IsUsedPart mask xs used → place < length used
    → slice_index used place ≡ slice_index xs place
used_at mask xs used place h within = ap (λ ys. get_or ys place 0) h.part ∙ get_or-take (length used) xs place 0 within

-- the same items are selected
selected_from_take : {X : Type 0} (mask place n : ℕ) (xs : List X)
    → ((k m : ℕ) → n ≤ k → k < length xs → place + k ≡ m → InMask mask m → ⊥) →
    selected_from mask place (take n xs) ≡ selected_from mask place xs
selected_from_take mask place zero (x ∷ xs) past =
    rw (ne_eqb (bit_at mask place) 1 (past 0 place (omega arith) (omega arith) (omega arith)))
    (selected_from_take mask (place + 1) zero xs (λ k m above within e. past (suc k) m (omega arith) (omega arith) (omega arith)))
selected_from_take mask place (suc n) (x ∷ xs) past =
    same_after _ x _ _ (selected_from_take mask (place + 1) n xs
    (λ k m above within e. past (suc k) m (omega arith) (omega arith) (omega arith)))
selected_from_take mask place _ _ past = refl

pub selected_used : {X : Type 0} (mask : ℕ) (xs used : List X) → IsUsedPart mask xs used → selected mask used ≡ selected mask xs
selected_used mask xs used h =
    ap (selected mask) h.part
    ∙ selected_from_take mask 0 (length used) xs
    (λ k m above within e set. let same : k ≡ m = omega arith in h.past k above within (rw same set))

-- the same places count
pub within_from_used : (xs used : List ℕ) (live lo hi place : ℕ) → IsUsedPart live xs used → IsPlaceWithin used live lo hi place
    → IsPlaceWithin xs live lo hi place
within_from_used xs used live lo hi place h at =
    let within : place < length used = at.within in
    let same : slice_index used place ≡ slice_index xs place = used_at live xs used place h within in
    let from : lo ≤ slice_index used place = at.from_lo in
    let to : slice_index used place ≤ hi = at.to_hi in
    record { within = omega (arith, used_few live xs used h); lives = at.lives; from_lo = omega arith; to_hi = omega arith }

pub within_in_used : (xs used : List ℕ) (live lo hi place : ℕ) → IsUsedPart live xs used → IsPlaceWithin xs live lo hi place
    → IsPlaceWithin used live lo hi place
within_in_used xs used live lo hi place h at =
    elim (cases_lt place (length used)) [
      | inl within ↦
          let same : slice_index used place ≡ slice_index xs place = used_at live xs used place h within in
          let from : lo ≤ slice_index xs place = at.from_lo in
          let to : slice_index xs place ≤ hi = at.to_hi in
          record { within = within; lives = at.lives; from_lo = omega arith; to_hi = omega arith }
      | inr past ↦ absurd (h.past place past at.within at.lives)
    ]
