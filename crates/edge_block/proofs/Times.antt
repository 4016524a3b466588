-- The least and the greatest of the times at the places in a mask.
use Rattle.std.proofs.Common.{◌≡◌, ◌≢◌, ℕ, ◌+◌, ◌*◌, ◌%◌, ◌^◌, ◌<◌, ◌≤◌, List, [], ◌∷◌, ◌++◌, length, set}
use Rattle.std.proofs.{Common.{refl, sym, ap, ◌∙◌, subst, ◌⊎◌, inl, inr, arith}, lemmas.Bool.{eq-eqb, ne_eqb, cases_eq, cases_lt}}
use Rattle.std.proofs.lemmas.List.{length-set, get_or-set_same, get_or-set_other, Elements.{Contains-append_left, All-contains}}
use Rattle.std.proofs.lemmas.List.Elements.{Contains-get_or, Contains-push, Contains-push_cases}
use Rattle.std.proofs.lemmas.Nat.Bits.{bit_at_set_same, bit_at_set_other, bit_at_clear_same, bit_at_clear_other, bit_at_above}
use Rattle.std.proofs.lemmas.{Nat.Bits.bit_at-trailing_zeros, Grind.common_steps}
use Rattle.std.specs.{Option.unwrap_or, Prelude.{slice_index, Contains}, Int.{bit_at, bit_not, w32, trailing_zeros}}
use Rattle.std.specs.{Int.RustNames.bit_or, declared.option.Option.{Option, TheVariants.{None, Some}}}
use lib.Bits.{and_le_l}
use Rattle.lane_scan.specs.Masks.{InMask, IsPlaceWithin, AreBoundsOf, selected_from, selected}
use Rattle.lane_scan.proofs.Selected.{selected_from_contains, has_later}
use Rattle.graph_types.proofs.Counts.{Contains-cons_cases}
use Rattle.lane_scan.proofs.MaskPlaces.{some_live, bounds_of_members}
use Rattle.edge_block.specs.Columns.{AreTimes, cleared_at}

-- a place in a mask that has a time
pub record HasAt (mask : ℕ) (xs : List ℕ) (time place : ℕ) : Type 0 where
  pub within : place < length xs
  pub lives : InMask mask place
  pub is : slice_index xs place ≡ time

selected_stands : (mask n : ℕ) (xs : List ℕ) (time : ℕ) → Contains (selected_from mask n xs) time →
    (k : ℕ) × (k < length xs) × InMask mask (n + k) × (slice_index xs k ≡ time)
selected_stands mask n [] time (k, within, is) = absurd (omega arith)
selected_stands mask n (x ∷ xs) time there =
    elim (cases_eq (bit_at mask n) 1) [
      | inl set ↦ elim (Contains-cons_cases x (selected_from mask (n + 1) xs) time (rw (eq-eqb (bit_at mask n) 1 set) at there)) [
        | inl same ↦ (0, omega arith, (let e : n + 0 ≡ n = omega arith in rw e set), same)
        | inr later ↦ has_later mask xs time x 0 n (selected_stands mask (n + 1) xs time later)
      ]
      | inr clear ↦ has_later mask xs time x 0 n
          (selected_stands mask (n + 1) xs time (rw (ne_eqb (bit_at mask n) 1 clear) at there))
    ]

pub place_selected : (mask : ℕ) (xs : List ℕ) (time : ℕ) → Contains (selected mask xs) time
    → (place : ℕ) × HasAt mask xs time place
place_selected mask xs time there =
    let at = selected_stands mask 0 xs time there in
    let same : 0 + at.0 ≡ at.0 = omega arith in
    (at.0, record { within = at.1; lives = rw same at at.2; is = at.3 })

pub selected_place : (mask : ℕ) (xs : List ℕ) (time place : ℕ) → HasAt mask xs time place → Contains (selected mask xs) time
selected_place mask xs time place at =
    subst (λ t. Contains (selected mask xs) t) at.is
    (selected_from_contains mask 0 xs place 0 place at.within (omega arith) at.lives)

-- a time at a place in the mask is within the bounds
pub bounded_at : (mask : ℕ) (xs : List ℕ) (times : ℕ × ℕ) (place : ℕ) → AreBoundsOf (selected mask xs) (Some times)
    → place < length xs → InMask mask place →
    (times.0 ≤ slice_index xs place) × (slice_index xs place ≤ times.1)
bounded_at mask xs times place h within lives =
    let there : Contains (selected mask xs) (slice_index xs place) =
    selected_place mask xs (slice_index xs place) place (record { within = within; lives = lives; is = refl }) in (
      All-contains (λ t. times.0 ≤ t) (selected mask xs) (slice_index xs place) h.0.bound there,
      All-contains (λ t. t ≤ times.1) (selected mask xs) (slice_index xs place) h.1.bound there,
    )

-- a window that misses the bounds, and one that covers them
pub window_misses : (live : ℕ) (rs : List ℕ) (times : ℕ × ℕ) (lo hi place : ℕ) → AreTimes live rs times
    → (hi < times.0) ⊎ (times.1 < lo) → IsPlaceWithin rs live lo hi place → ⊥
window_misses live rs times lo hi place h misses at =
    let both = bounded_at live rs times place (h (some_live live place at.lives)) at.within at.lives in
    let from : lo ≤ slice_index rs place = at.from_lo in
    let to : slice_index rs place ≤ hi = at.to_hi in
    let low : times.0 ≤ slice_index rs place = both.0 in
    let high : slice_index rs place ≤ times.1 = both.1 in
    elim misses [ inl before ↦ omega arith | inr after ↦ omega arith ]

pub window_covers : (live : ℕ) (rs : List ℕ) (times : ℕ × ℕ) (lo hi place : ℕ) → live < 2 ^ 32 → length rs ≡ 32
    → AreTimes live rs times → lo ≤ times.0 → times.1 ≤ hi → InMask live place → IsPlaceWithin rs live lo hi place
window_covers live rs times lo hi place fits long h from to lives =
    let few : place < 32 = elim (cases_lt place 32) [
      | inl below ↦ below
      | inr past ↦ absurd (omega (arith, bit_at_above live 32 place fits past))
    ] in
    let both = bounded_at live rs times place (h (some_live live place lives)) (omega arith) lives in
    let low : times.0 ≤ slice_index rs place = both.0 in
    let high : slice_index rs place ≤ times.1 = both.1 in
    record { within = omega arith; lives = lives; from_lo = omega arith; to_hi = omega arith }

-- of the places other than one
pub cleared_other : (live i place : ℕ) → i < 32 → place < 32 → place ≢ i → bit_at (cleared_at live i) place ≡ bit_at live place
cleared_other live i place few within ne = bit_at_clear_other w32 live i few place within ne

pub not_cleared : (live i place : ℕ) → i < 32 → InMask (cleared_at live i) place → place ≢ i
not_cleared live i place few lives same =
    let gone : bit_at (cleared_at live i) i ≡ 0 = bit_at_clear_same w32 live i few in
    let here : bit_at (cleared_at live i) i ≡ 1 = rw same at lives in
    omega arith

pub live_with_others : (live i : ℕ) → (cleared_at live i ≡ 0 → ⊥) → 0 < live
live_with_others live i some = grind (arith, common_steps)

-- the place has neither bound
pub bounds_inside : (live : ℕ) (rs : List ℕ) (times : ℕ × ℕ) (i : ℕ) → i < 32 → length rs ≡ 32
    → AreBoundsOf (selected live rs) (Some times) →
    times.0 < slice_index rs i → slice_index rs i < times.1 → AreBoundsOf (selected (cleared_at live i) rs) (Some times)
bounds_inside live rs times i few long h above below = (
  record {
    reached = kept times.0 h.0.reached (λ same. omega arith);
    bound = λ k d within. All-contains (λ t. times.0 ≤ t) (selected live rs) _ h.0.bound
        (was _ (Contains-get_or (selected (cleared_at live i) rs) k d within));
  },
  record {
    reached = kept times.1 h.1.reached (λ same. omega arith);
    bound = λ k d within. All-contains (λ t. t ≤ times.1) (selected live rs) _ h.1.bound
        (was _ (Contains-get_or (selected (cleared_at live i) rs) k d within));
  },
)
  where
    kept : (t : ℕ) → Contains (selected live rs) t → (slice_index rs i ≡ t → ⊥) → Contains (selected (cleared_at live i) rs) t
    kept t there other =
        let at = place_selected live rs t there in
        let within : at.0 < length rs = at.1.within in
        let ne : at.0 ≢ i = λ same. other (ap (slice_index rs) (sym same) ∙ at.1.is) in
        selected_place (cleared_at live i) rs t at.0
        (record { within = within; lives = cleared_other live i at.0 few (omega arith) ne ∙ at.1.lives; is = at.1.is })

    was : (t : ℕ) → Contains (selected (cleared_at live i) rs) t → Contains (selected live rs) t
    was t there =
        let at = place_selected (cleared_at live i) rs t there in
        let within : at.0 < length rs = at.1.within in
        selected_place live rs t at.0
        (record {
          within = within;
          lives = sym (cleared_other live i at.0 few (omega arith) (not_cleared live i at.0 few at.1.lives)) ∙ at.1.lives;
          is = at.1.is;
        })

-- a time written at a place joins those at the other live places
pub times_put : (live : ℕ) (rs : List ℕ) (i r : ℕ) (times : ℕ × ℕ) → i < 32 → length rs ≡ 32 →
    AreBoundsOf (selected (cleared_at live i) rs ++ r ∷ []) (Some times)
    → AreTimes (bit_or live (1 * 2 ^ i % 2 ^ 32)) (set rs i r) times
times_put live rs i r times few long h some =
    bounds_of_members (selected (cleared_at live i) rs ++ r ∷ [])
    (selected (bit_or live (1 * 2 ^ i % 2 ^ 32)) (set rs i r)) times to from h
  where
    long' : length (set rs i r) ≡ 32
    long' = length-set rs i r ∙ long

    here : HasAt (bit_or live (1 * 2 ^ i % 2 ^ 32)) (set rs i r) r i
    here =
        record {
          within = omega (arith, long');
          lives = bit_at_set_same w32 live i few;
          is = get_or-set_same rs i r 0 (omega arith);
        }

    to : (t : ℕ) → Contains (selected (cleared_at live i) rs ++ r ∷ []) t
        → Contains (selected (bit_or live (1 * 2 ^ i % 2 ^ 32)) (set rs i r)) t
    to t there = elim (Contains-push_cases (selected (cleared_at live i) rs) r t there) [
      | inl other ↦
          let at = place_selected (cleared_at live i) rs t other in
          let within : at.0 < length rs = at.1.within in
          let ne : at.0 ≢ i = not_cleared live i at.0 few at.1.lives in
          selected_place (bit_or live (1 * 2 ^ i % 2 ^ 32)) (set rs i r) t at.0 (record {
            within = omega (arith, long');
            lives = bit_at_set_other w32 live i few at.0 ne ∙ sym (cleared_other live i at.0 few (omega arith) ne) ∙ at.1.lives;
            is = get_or-set_other rs i at.0 r 0 ne ∙ at.1.is;
          })
      | inr same ↦ subst (λ t. Contains (selected (bit_or live (1 * 2 ^ i % 2 ^ 32)) (set rs i r)) t) same
          (selected_place (bit_or live (1 * 2 ^ i % 2 ^ 32)) (set rs i r) r i here)
    ]

    from : (t : ℕ) → Contains (selected (bit_or live (1 * 2 ^ i % 2 ^ 32)) (set rs i r)) t
        → Contains (selected (cleared_at live i) rs ++ r ∷ []) t
    from t there =
        let at = place_selected (bit_or live (1 * 2 ^ i % 2 ^ 32)) (set rs i r) t there in
        let within : at.0 < length (set rs i r) = at.1.within in
        elim (cases_eq at.0 i) [
          | inl same ↦
              let is : r ≡ t = sym (get_or-set_same rs i r 0 (omega arith)) ∙ ap (slice_index (set rs i r)) (sym same)
              ∙ at.1.is in
              subst (λ t. Contains (selected (cleared_at live i) rs ++ r ∷ []) t) is
              (Contains-push (selected (cleared_at live i) rs) r)
          | inr ne ↦
              Contains-append_left (selected (cleared_at live i) rs) (r ∷ []) t
              (selected_place (cleared_at live i) rs t at.0 (record {
                within = omega (arith, long');
                lives = cleared_other live i at.0 few (omega (arith, long')) ne ∙ sym (bit_at_set_other w32 live i few at.0 ne)
                    ∙ at.1.lives;
                is = sym (get_or-set_other rs i at.0 r 0 ne) ∙ at.1.is;
              }))
        ]

-- a place taken out leaves the bounds of the others, and any where there is no other
pub times_taken : (live : ℕ) (rs : List ℕ) (i : ℕ) (others : Option (ℕ × ℕ)) (times : ℕ × ℕ) → live < 2 ^ 32 → length rs ≡ 32 →
    AreBoundsOf (selected (cleared_at live i) rs) others → AreTimes (cleared_at live i) rs (unwrap_or others times)
times_taken live rs i (Some found) times fits long h some = h
times_taken live rs i None times fits long h some =
    let few : cleared_at live i < 2 ^ 32 = omega (arith, and_le_l live (bit_not w32 (1 * 2 ^ i % 2 ^ 32))) in
    let low : (trailing_zeros w32 (cleared_at live i) < 32)
    × (bit_at (cleared_at live i) (trailing_zeros w32 (cleared_at live i)) ≡ 1)
    × ((k : ℕ) → k < trailing_zeros w32 (cleared_at live i) → bit_at (cleared_at live i) k ≡ 0) =
    bit_at-trailing_zeros w32 (cleared_at live i) some few in
    let there : Contains (selected (cleared_at live i) rs) (slice_index rs (trailing_zeros w32 (cleared_at live i))) =
    selected_place (cleared_at live i) rs (slice_index rs (trailing_zeros w32 (cleared_at live i)))
    (trailing_zeros w32 (cleared_at live i)) (record { within = omega arith; lives = low.1; is = refl }) in
    let nowhere : Contains [] (slice_index rs (trailing_zeros w32 (cleared_at live i))) = rw h at there in
    absurd (omega (arith, nowhere.1))
