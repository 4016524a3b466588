-- Masks of comparisons, lane by lane.
use Rattle.std.proofs.Common.{◌≡◌, ◌↔◌, ℕ, ◌-◌, ◌%◌, ◌^◌, ◌<◌, ◌≤◌, List, Bool, true, false, cond, leb, eqb, length, get_or, map}
use Rattle.std.proofs.Common.{◌+◌, ◌*◌, [], ◌∷◌, not, take, replicate, refl, sym, ap, ◌∙◌, arith, inl, inr}
use Rattle.std.proofs.lemmas.Simd.{length-zip2, get_or-zip2, get_or-replicate, bit_mask_l, tops_compared, mask_l-mod, mask_l-lt}
use Rattle.std.proofs.lemmas.{Simd.length-replicate, List.length-take, List.get_or-take, List.take_all}
use Rattle.std.proofs.{Math.Pow.pow_mono, lemmas.Nat.Bits.bit_at_and, lemmas.Nat.Bits.bit_at_above, lemmas.Nat.Bits.bit_at-lt}
use Rattle.std.proofs.lemmas.Bool.{leb-true, leb-false, eqb-true, eqb-false, eq-eqb, cases_lt}
use Rattle.std.specs.{Int.bit_at, Int.w32, Int.w64, Int.RustNames.bit_and, Simd.Lanes.zip2, Simd.Lanes.mask_l, Simd.Lanes.top}
use Rattle.lane_scan.specs.Masks.{InMask, IsPlaceOf, IsPlaceWithin}

-- what a comparison of 32-bit lanes, or of 64-bit ones, gives as a mask
abbrev pub mask32 : (ℕ → ℕ → Bool) → List ℕ → List ℕ → ℕ
mask32 t xs ys = mask_l (map (top 31) (zip2 (λ a b. cond (t a b) (2 ^ 32 - 1) 0) xs ys)) % 2 ^ 64

abbrev pub mask64 : (ℕ → ℕ → Bool) → List ℕ → List ℕ → ℕ
mask64 t xs ys = mask_l (map (top 63) (zip2 (λ a b. cond (t a b) (2 ^ 64 - 1) 0) xs ys)) % 2 ^ 64

-- a bit of the mask is the comparison of two lanes
bit_of_lanes : (t : ℕ → ℕ → Bool) (xs ys : List ℕ) (ms : List Bool) (n k : ℕ) → ms ≡ zip2 t xs ys → length xs ≡ n → length ys ≡ n
    → n ≤ 64 → k < n →
    bit_at (mask_l ms % 2 ^ 64) k ≡ cond (t (get_or xs k 0) (get_or ys k 0)) 1 0
bit_of_lanes t xs ys ms n k e p q few within =
    ap (λ ns. bit_at (mask_l ns % 2 ^ 64) k) e
    ∙ ap (λ m. bit_at m k) (mask_l-mod (zip2 t xs ys) 64 (omega (arith, length-zip2 t xs ys (p ∙ sym q))))
    ∙ bit_mask_l (zip2 t xs ys) k
    ∙ ap (λ b. cond b 1 0) (get_or-zip2 t xs ys k 0 0 false (omega arith) (omega arith))

-- the mask of at most 32 lanes is a word of 32 bits
few_bits : (t : ℕ → ℕ → Bool) (xs ys : List ℕ) (ms : List Bool) (n : ℕ) → ms ≡ zip2 t xs ys → length xs ≡ n → length ys ≡ n
    → n ≤ 32 →
    mask_l ms % 2 ^ 64 < 2 ^ 32
few_bits t xs ys ms n e p q few =
    let long : length (zip2 t xs ys) ≡ n = length-zip2 t xs ys (p ∙ sym q) ∙ p in
    rw (e, mask_l-mod (zip2 t xs ys) 64 (omega arith))
    (omega (arith, mask_l-lt (zip2 t xs ys), pow_mono {i = length (zip2 t xs ys)} {j = 32} (omega arith)))

pub mask32_few : (t : ℕ → ℕ → Bool) (xs ys : List ℕ) (n : ℕ) → length xs ≡ n → length ys ≡ n → n ≤ 32 → mask32 t xs ys < 2 ^ 32
mask32_few t xs ys n p q few = few_bits t xs ys _ n (tops_compared w32 t xs ys) p q few

pub mask64_few : (t : ℕ → ℕ → Bool) (xs ys : List ℕ) (n : ℕ) → length xs ≡ n → length ys ≡ n → n ≤ 32 → mask64 t xs ys < 2 ^ 32
mask64_few t xs ys n p q few = few_bits t xs ys _ n (tops_compared w64 t xs ys) p q few

equal_tells : (a b : ℕ) (e : Bool) → eqb a b ≡ e → (cond {A = ℕ} e 1 0 ≡ 1) ↔ (a ≡ b)
equal_tells a b true e = (λ h. eqb-true a b e, λ h. refl)
equal_tells a b false e = (λ h. absurd (omega arith), λ h. absurd (eqb-false a b e h))

least_tells : (a b : ℕ) (e : Bool) → leb a b ≡ e → (cond {A = ℕ} e 1 0 ≡ 1) ↔ (a ≤ b)
least_tells a b true e = (λ h. leb-true a b e, λ h. refl)
least_tells a b false e = (λ h. absurd (omega arith), λ h. absurd (omega (arith, leb-false a b e)))

pub part_long : (n : ℕ) (xs : List ℕ) → n ≤ length xs → length (take n xs) ≡ n
part_long n xs room = omega (arith, length-take n xs)

-- the first n items against one value
pub equal_lanes : (xs : List ℕ) (y n k : ℕ) → n ≤ length xs → n ≤ 64 → k < n →
    (InMask (mask32 eqb (take n xs) (replicate n y)) k ↔ (get_or xs k 0 ≡ y))
equal_lanes xs y n k room few within =
    let e : bit_at (mask32 eqb (take n xs) (replicate n y)) k ≡ cond (eqb (get_or xs k 0) y) 1 0 =
    bit_of_lanes eqb (take n xs) (replicate n y) _ n k (tops_compared w32 eqb (take n xs) (replicate n y))
    (part_long n xs room) (length-replicate n y) few within
    ∙ (λ i. cond (eqb (get_or-take n xs k 0 within i) (get_or-replicate n k y 0 within i)) 1 0) in
    rw e (equal_tells (get_or xs k 0) y _ refl)

pub from_lanes : (xs : List ℕ) (y n k : ℕ) → n ≤ length xs → n ≤ 64 → k < n →
    (InMask (mask64 leb (replicate n y) (take n xs)) k ↔ (y ≤ get_or xs k 0))
from_lanes xs y n k room few within =
    let e : bit_at (mask64 leb (replicate n y) (take n xs)) k ≡ cond (leb y (get_or xs k 0)) 1 0 =
    bit_of_lanes leb (replicate n y) (take n xs) _ n k (tops_compared w64 leb (replicate n y) (take n xs))
    (length-replicate n y) (part_long n xs room) few within
    ∙ (λ i. cond (leb (get_or-replicate n k y 0 within i) (get_or-take n xs k 0 within i)) 1 0) in
    rw e (least_tells y (get_or xs k 0) _ refl)

pub to_lanes : (xs : List ℕ) (y n k : ℕ) → n ≤ length xs → n ≤ 64 → k < n →
    (InMask (mask64 leb (take n xs) (replicate n y)) k ↔ (get_or xs k 0 ≤ y))
to_lanes xs y n k room few within =
    let e : bit_at (mask64 leb (take n xs) (replicate n y)) k ≡ cond (leb (get_or xs k 0) y) 1 0 =
    bit_of_lanes leb (take n xs) (replicate n y) _ n k (tops_compared w64 leb (take n xs) (replicate n y))
    (part_long n xs room) (length-replicate n y) few within
    ∙ (λ i. cond (leb (get_or-take n xs k 0 within i) (get_or-replicate n k y 0 within i)) 1 0) in
    rw e (least_tells (get_or xs k 0) y _ refl)

-- a place in two masks
pub in_both : (a b place : ℕ) → (InMask (bit_and a b) place ↔ (InMask a place × InMask b place))
in_both a b place = (
  λ set. (
    omega (arith, bit_at_and a b place, bit_at-lt a place, bit_at-lt b place),
    omega (arith, bit_at_and a b place, bit_at-lt a place, bit_at-lt b place),
  ),
  λ h. omega (arith, bit_at_and a b place, h.0, h.1),
)

-- no place at or past n is in a mask below 2 ^ n
pub place_below : (mask n place : ℕ) → mask < 2 ^ n → InMask mask place → place < n
place_below mask n place fits set =
    elim (cases_lt place n) [
      | inl within ↦ within
      | inr past ↦ absurd (omega (arith, bit_at_above mask n place fits past))
    ]

-- the live ones of the places that were compared
pub live_targets : (targets : List ℕ) (live target held n : ℕ) → n ≤ length targets → live < 2 ^ n
    → ((place : ℕ) → place < n → (InMask held place ↔ (get_or targets place 0 ≡ target))) → (place : ℕ) →
    (InMask (bit_and held live) place ↔ IsPlaceOf targets live target place)
live_targets targets live target held n room fits each place = (
  λ set. (
      let two = (in_both held live place).0 set in
      let within : place < n = place_below live n place fits two.1 in
      record { within = omega arith; lives = two.1; holds = (each place within).0 two.0 }
      ),
  λ at. (in_both held live place).1 ((each place (place_below live n place fits at.lives)).1 at.holds, at.lives),
)

pub live_within : (times : List ℕ) (live lo hi held n : ℕ) → n ≤ length times → live < 2 ^ n
    → ((place : ℕ) → place < n → (InMask held place ↔ ((lo ≤ get_or times place 0) × (get_or times place 0 ≤ hi))))
    → (place : ℕ) →
    (InMask (bit_and held live) place ↔ IsPlaceWithin times live lo hi place)
live_within times live lo hi held n room fits each place = (
  λ set. (
      let two = (in_both held live place).0 set in
      let within : place < n = place_below live n place fits two.1 in
      let between = (each place within).0 two.0 in
      record { within = omega arith; lives = two.1; from_lo = between.0; to_hi = between.1 }
      ),
  λ at. (in_both held live place).1
      ((each place (place_below live n place fits at.lives)).1 (at.from_lo, at.to_hi), at.lives),
)

-- whether two lanes differ
abbrev pub differs : ℕ → ℕ → Bool
differs a b = not (eqb a b)

head_same : (x y rest : ℕ) (e : Bool) → eqb x y ≡ e → cond {A = ℕ} (not e) 1 0 + 2 * rest ≡ 0 → x ≡ y
head_same x y rest true e none = eqb-true x y e
head_same x y rest false e none = absurd (omega arith)

rest_none : (e : Bool) (rest : ℕ) → cond {A = ℕ} e 1 0 + 2 * rest ≡ 0 → rest ≡ 0
rest_none true rest none = absurd (omega arith)
rest_none false rest none = omega arith

-- where no lanes differ, the lists are equal, and the other way round
same_lists : (xs ys : List ℕ) → length xs ≡ length ys → mask_l (zip2 differs xs ys) ≡ 0 → xs ≡ ys
same_lists [] [] e none = refl
same_lists (x ∷ xs) (y ∷ ys) e none =
    ap (λ zs. x ∷ zs) (same_lists xs ys (omega arith) (rest_none (differs x y) (mask_l (zip2 differs xs ys)) none))
    ∙ ap (λ z. z ∷ ys) (head_same x y (mask_l (zip2 differs xs ys)) (eqb x y) refl none)
same_lists _ _ e none = absurd (omega arith)

no_difference : (xs : List ℕ) → mask_l (zip2 differs xs xs) ≡ 0
no_difference [] = refl
no_difference (x ∷ xs) = rw (eq-eqb x x refl) (omega (arith, no_difference xs))

-- the mask of the lanes in which two lists of 32 differ
difference_mask : (xs ys : List ℕ) → length xs ≡ 32 → length ys ≡ 32 →
    mask32 differs (take 32 xs) (take 32 ys) ≡ mask_l (zip2 differs xs ys)
difference_mask xs ys p q =
    (λ i. mask32 differs (take_all 32 xs (omega arith) i) (take_all 32 ys (omega arith) i))
    ∙ ap (λ ms. mask_l ms % 2 ^ 64) (tops_compared w32 differs xs ys)
    ∙ mask_l-mod (zip2 differs xs ys) 64 (omega (arith, length-zip2 differs xs ys (p ∙ sym q)))

pub same_columns : (xs ys : List ℕ) → length xs ≡ 32 → length ys ≡ 32 →
    ((mask32 differs (take 32 xs) (take 32 ys) ≡ 0) ↔ (xs ≡ ys))
same_columns xs ys p q = (
  λ none. same_lists xs ys (p ∙ sym q) (sym (difference_mask xs ys p q) ∙ none),
  λ same. difference_mask xs ys p q ∙ rw (sym same) (no_difference xs),
)
