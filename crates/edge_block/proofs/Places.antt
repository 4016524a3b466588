-- The slots that columns make, place by place.
use Rattle.std.proofs.Common.{◌≡◌, ◌≢◌, ℕ, ◌+◌, ◌-◌, ◌*◌, ◌%◌, ◌^◌, ◌<◌, ◌≤◌, ℤ, pos, true, false, not, List, length, get_or}
use Rattle.std.proofs.{Common.{replicate, set, sym, ap, ◌∙◌, inl, inr, arith}, lemmas.Bool.{eq-eqb, ne_eqb, cases_eq, cases_lt, true≢false}}
use Rattle.std.proofs.lemmas.List.{ext_get_or, length-set, get_or-set_same, get_or-set_other, get_or-replicate, get_or_past}
use Rattle.std.proofs.lemmas.List.{FromFn.{length-map-range_with_len, get_or-map-range_with_len}, Elements.All-from_get_or}
use Rattle.std.proofs.lemmas.{List.Folds.{list_any_none, list_any_at}, Nat.Bits.{bit_at_set_same, bit_at_set_other}}
use Rattle.std.proofs.lemmas.Nat.Bits.{bit_at_clear_same, bit_at_clear_other, bit_at-zero, bit_at-trailing_ones, bit_at_ones}
use Rattle.std.specs.{Prelude.◌==◌, List.list_any, Int.{bit_at, w32, bit_not, trailing_ones, RustNames.bit_or}}
use Rattle.std.specs.{Int.RustNames.bit_and, declared.option.Option.{Option, TheVariants.{None, Some}}}
use Rattle.std.proofs.lemmas.Grind.{common_steps}
use Rattle.graph_types.proofs.Cases.{none_by_test}
use Rattle.lane_scan.specs.Masks.{InMask, IsPlaceOf}
use Rattle.lane_scan.proofs.MaskPlaces.{lives_or_not}
use Rattle.edge_block.specs.Slots.{Slot, edge_slot, at_first, holds, is_free_slot, stamp_in_slot, put_slot, take_slot, has_room_for}
use Rattle.edge_block.specs.{Slots.stamp_at, Columns.slots_of, Columns.slot_from, Columns.column_slot}
use Rattle.edge_block.proofs.{Firsts.{at_first-set, first_some_at}, SlotLaws.target_of_edge}

pub length-slots_of : (live : ℕ) (ts : List ℕ) (ws : List ℤ) (fs rs : List ℕ) → length (slots_of live ts ws fs rs) ≡ 32
unfolding slots_of
length-slots_of live ts ws fs rs = length-map-range_with_len (slot_from live ts ws fs rs) 0 32

pub get_or-slots_of : (live : ℕ) (ts : List ℕ) (ws : List ℤ) (fs rs : List ℕ) (i : ℕ) (d : Option Slot) → i < 32 →
    get_or (slots_of live ts ws fs rs) i d ≡ slot_from live ts ws fs rs i
unfolding slots_of
get_or-slots_of live ts ws fs rs i d within =
    get_or-map-range_with_len (slot_from live ts ws fs rs) 0 32 i i d within (omega arith)

-- the slot at a live place, and at a dead one
pub slot_live : (live : ℕ) (ts : List ℕ) (ws : List ℤ) (fs rs : List ℕ) (i : ℕ) (d : Option Slot) → i < 32 → InMask live i →
    get_or (slots_of live ts ws fs rs) i d ≡ Some (column_slot ts ws fs rs i)
slot_live live ts ws fs rs i d within lives = rw (get_or-slots_of live ts ws fs rs i d within, eq-eqb (bit_at live i) 1 lives)

pub slot_dead : (live : ℕ) (ts : List ℕ) (ws : List ℤ) (fs rs : List ℕ) (i : ℕ) (d : Option Slot) → i < 32 → (InMask live i → ⊥) →
    get_or (slots_of live ts ws fs rs) i d ≡ None
slot_dead live ts ws fs rs i d within dead = rw (get_or-slots_of live ts ws fs rs i d within, ne_eqb (bit_at live i) 1 dead)

-- no place is live
pub slots_of-none : (ts : List ℕ) (ws : List ℤ) (fs rs : List ℕ) → slots_of 0 ts ws fs rs ≡ replicate 32 None
slots_of-none ts ws fs rs =
    ext_get_or None (slots_of 0 ts ws fs rs) (replicate 32 None) (length-slots_of 0 ts ws fs rs) (λ i within.
    let few : i < 32 = omega (arith, length-slots_of 0 ts ws fs rs) in
    slot_dead 0 ts ws fs rs i None few (λ set. omega (arith, bit_at-zero i)) ∙ sym (get_or-replicate 32 i None None few))

-- columns that differ at one place alone
pub slots_of-set : (live live' : ℕ) (ts ts' : List ℕ) (ws ws' : List ℤ) (fs fs' rs rs' : List ℕ) (i : ℕ) (s : Option Slot)
    → i < 32 →
    slot_from live' ts' ws' fs' rs' i ≡ s → ((k : ℕ) → k < 32 → k ≢ i
    → slot_from live' ts' ws' fs' rs' k ≡ slot_from live ts ws fs rs k) →
    slots_of live' ts' ws' fs' rs' ≡ set (slots_of live ts ws fs rs) i s
slots_of-set live live' ts ts' ws ws' fs fs' rs rs' i s few here others =
    ext_get_or None (slots_of live' ts' ws' fs' rs') (set (slots_of live ts ws fs rs) i s)
    (length-slots_of live' ts' ws' fs' rs' ∙ sym (length-set (slots_of live ts ws fs rs) i s ∙ length-slots_of live ts ws fs rs))
    (λ k within.
    let below : k < 32 = omega (arith, length-slots_of live' ts' ws' fs' rs') in
    let there : i < length (slots_of live ts ws fs rs) = omega (arith, length-slots_of live ts ws fs rs) in
    get_or-slots_of live' ts' ws' fs' rs' k None below
    ∙ elim (cases_eq k i) [
      | inl e ↦ rw e (here ∙ sym (get_or-set_same (slots_of live ts ws fs rs) i s None there))
      | inr ne ↦ others k below ne ∙ sym (get_or-set_other (slots_of live ts ws fs rs) i k s None ne
          ∙ get_or-slots_of live ts ws fs rs k None below)
    ])

-- an edge written at a place of the columns
pub slots_of-put : (live : ℕ) (ts : List ℕ) (ws : List ℤ) (fs rs : List ℕ) (i t : ℕ) (w : ℤ) (f r : ℕ) → i < 32 →
    length ts ≡ 32 → length ws ≡ 32 → length fs ≡ 32 → length rs ≡ 32 →
    slots_of (bit_or live (1 * 2 ^ i % 2 ^ 32)) (set ts i t) (set ws i w) (set fs i f) (set rs i r)
    ≡ set (slots_of live ts ws fs rs) i (Some (edge_slot t w f r))
slots_of-put live ts ws fs rs i t w f r few lt lw lf lr =
    let in_ts : i < length ts = omega arith in
    let in_ws : i < length ws = omega arith in
    let in_fs : i < length fs = omega arith in
    let in_rs : i < length rs = omega arith in
    slots_of-set live (bit_or live (1 * 2 ^ i % 2 ^ 32)) ts (set ts i t) ws (set ws i w) fs (set fs i f) rs (set rs i r) i
    (Some (edge_slot t w f r)) few
    (rw (
      eq-eqb (bit_at (bit_or live (1 * 2 ^ i % 2 ^ 32)) i) 1
          (bit_at_set_same w32 live i few),
      get_or-set_same ts i t 0 in_ts,
      get_or-set_same ws i w (pos 0) in_ws,
      get_or-set_same fs i f 0 in_fs,
      get_or-set_same rs i r 0 in_rs,
    ))
    (λ k below ne. rw (
      bit_at_set_other w32 live i few k ne,
      get_or-set_other ts i k t 0 ne,
      get_or-set_other ws i k w
          (pos 0) ne,
      get_or-set_other fs i k f 0 ne,
      get_or-set_other rs i k r 0 ne,
    ))

-- a place taken out of the live ones
pub slots_of-take : (live : ℕ) (ts : List ℕ) (ws : List ℤ) (fs rs : List ℕ) (i t : ℕ) → i < 32 →
    slots_of (bit_and live (bit_not w32 (1 * 2 ^ i % 2 ^ 32))) (set ts i t) ws fs rs ≡ set (slots_of live ts ws fs rs) i None
slots_of-take live ts ws fs rs i t few =
    slots_of-set live (bit_and live (bit_not w32 (1 * 2 ^ i % 2 ^ 32))) ts (set ts i t) ws ws fs fs rs rs i None few
    (rw (bit_at_clear_same w32 live i few))
    (λ k below ne. rw (bit_at_clear_other w32 live i few k below ne, get_or-set_other ts i k t 0 ne))

-- whether a slot of the columns holds a target
pub holds_at : (live : ℕ) (ts : List ℕ) (ws : List ℤ) (fs rs : List ℕ) (target i : ℕ) → length ts ≡ 32
    → IsPlaceOf ts live target i →
    holds target (get_or (slots_of live ts ws fs rs) i None) ≡ true
holds_at live ts ws fs rs target i lt at = grind (arith, common_steps, slot_live, eq-eqb)

pub not_holds_at : (live : ℕ) (ts : List ℕ) (ws : List ℤ) (fs rs : List ℕ) (target i : ℕ) → length ts ≡ 32 → i < 32
    → (IsPlaceOf ts live target i → ⊥) →
    holds target (get_or (slots_of live ts ws fs rs) i None) ≡ false
not_holds_at live ts ws fs rs target i lt few not_at = grind (arith, common_steps, lives_or_not, slot_live, ne_eqb, slot_dead)

-- an edge to the target is put over the first slot that has one
pub put_over : (live : ℕ) (ts : List ℕ) (ws : List ℤ) (fs rs : List ℕ) (target i : ℕ) → length ts ≡ 32
    → IsPlaceOf ts live target i →
    ((other : ℕ) → IsPlaceOf ts live target other → i ≤ other) → (w : ℤ) (f r : ℕ) →
    put_slot (edge_slot target w f r) (slots_of live ts ws fs rs)
    ≡ set (slots_of live ts ws fs rs) i (Some (edge_slot target w f r))
put_over live ts ws fs rs target i lt at least w f r =
    let within : i < length ts = at.within in
    let in_slots : i < length (slots_of live ts ws fs rs) = omega (arith, length-slots_of live ts ws fs rs) in
    let held : holds target (get_or (slots_of live ts ws fs rs) i None) ≡ true = holds_at live ts ws fs rs target i lt at in
    rw (list_any_at (holds target) (slots_of live ts ws fs rs) i None in_slots held)
    (at_first-set (holds target) (λ _. Some (edge_slot target w f r)) (slots_of live ts ws fs rs) i None in_slots held
    (λ k below. not_holds_at live ts ws fs rs target k lt (omega arith)
    (λ there. absurd (let le : i ≤ k = least k there in omega arith))))

-- no slot has an edge to the target
pub none_holds : (live : ℕ) (ts : List ℕ) (ws : List ℤ) (fs rs : List ℕ) (target : ℕ) → length ts ≡ 32
    → ((i : ℕ) → IsPlaceOf ts live target i → ⊥) →
    list_any (holds target) (slots_of live ts ws fs rs) ≡ false
none_holds live ts ws fs rs target lt none =
    list_any_none (holds target) (slots_of live ts ws fs rs)
    (All-from_get_or (λ s. holds target s ≡ false) (slots_of live ts ws fs rs) None
    (λ i within. not_holds_at live ts ws fs rs target i lt (omega (arith, length-slots_of live ts ws fs rs)) (none i)))

-- all places are live
pub none_free : (live : ℕ) (ts : List ℕ) (ws : List ℤ) (fs rs : List ℕ) → live + 1 ≡ 2 ^ 32
    → list_any is_free_slot (slots_of live ts ws fs rs) ≡ false
none_free live ts ws fs rs full =
    list_any_none is_free_slot (slots_of live ts ws fs rs)
    (All-from_get_or (λ s. is_free_slot s ≡ false) (slots_of live ts ws fs rs) None
    (λ i within.
    let few : i < 32 = omega (arith, length-slots_of live ts ws fs rs) in
    let ones : live ≡ 2 ^ 32 - 1 = omega arith in
    let lives : InMask live i = rw ones (bit_at_ones 32 i few) in
    rw (slot_live live ts ws fs rs i None few lives)))

-- the lowest dead place is the first free slot
pub first_free : (live : ℕ) (ts : List ℕ) (ws : List ℤ) (fs rs : List ℕ) (f : Option Slot → Option Slot) → live + 1 < 2 ^ 32 →
    (list_any is_free_slot (slots_of live ts ws fs rs) ≡ true)
    × (at_first is_free_slot f (slots_of live ts ws fs rs) ≡ set (slots_of live ts ws fs rs) (trailing_ones w32 live) (f None))
first_free live ts ws fs rs f room =
    let lowest : (trailing_ones w32 live < 32) × (bit_at live (trailing_ones w32 live) ≡ 0)
    × ((k : ℕ) → k < trailing_ones w32 live → bit_at live k ≡ 1) = bit_at-trailing_ones w32 live room in
    let few : trailing_ones w32 live < 32 = lowest.0 in
    let in_slots : trailing_ones w32 live < length (slots_of live ts ws fs rs) =
    omega (arith, length-slots_of live ts ws fs rs) in
    let clear : bit_at live (trailing_ones w32 live) ≡ 0 = lowest.1 in
    let none : get_or (slots_of live ts ws fs rs) (trailing_ones w32 live) None ≡ None =
    slot_dead live ts ws fs rs (trailing_ones w32 live) None few (λ set. omega arith) in (
      list_any_at is_free_slot (slots_of live ts ws fs rs) (trailing_ones w32 live) None in_slots (rw none),
      at_first-set is_free_slot f (slots_of live ts ws fs rs) (trailing_ones w32 live) None in_slots (rw none)
          (λ k below. rw (slot_live live ts ws fs rs k None (omega arith) (lowest.2 k below)))
          ∙ ap (λ s. set (slots_of live ts ws fs rs) (trailing_ones w32 live) (f s)) none,
    )

-- an edge whose target is absent is put into the lowest free slot
pub put_into : (live : ℕ) (ts : List ℕ) (ws : List ℤ) (fs rs : List ℕ) (target : ℕ) → length ts ≡ 32 → live < 2 ^ 32
    → ((i : ℕ) → IsPlaceOf ts live target i → ⊥) →
    has_room_for target (slots_of live ts ws fs rs) ≡ true →
    (trailing_ones w32 live < 32) × ((w : ℤ) (f r : ℕ)
    → put_slot (edge_slot target w f r) (slots_of live ts ws fs rs)
    ≡ set (slots_of live ts ws fs rs) (trailing_ones w32 live) (Some (edge_slot target w f r)))
put_into live ts ws fs rs target lt fits none room =
    let absent : list_any (holds target) (slots_of live ts ws fs rs) ≡ false = none_holds live ts ws fs rs target lt none in
    let free : list_any is_free_slot (slots_of live ts ws fs rs) ≡ true = rw absent at room in
    let dead : live + 1 < 2 ^ 32 = elim (cases_eq (live + 1) (2 ^ 32)) [
      | inl full ↦ absurd (true≢false (sym free ∙ none_free live ts ws fs rs full))
      | inr ne ↦ omega arith
    ] in (
      (bit_at-trailing_ones w32 live dead).0,
      (λ w f r. rw absent (first_free live ts ws fs rs (λ _. Some (edge_slot target w f r)) dead).1),
    )

-- a full block has no free slot
pub is_free-full : (live : ℕ) (ts : List ℕ) (ws : List ℤ) (fs rs : List ℕ) → live < 2 ^ 32
    → list_any is_free_slot (slots_of live ts ws fs rs) ≡ not (live == 4294967295)
is_free-full live ts ws fs rs fits =
    elim (cases_eq live 4294967295) [
      | inl e ↦ rw (eq-eqb live 4294967295 e) (none_free live ts ws fs rs (omega arith))
      | inr ne ↦ rw (ne_eqb live 4294967295 ne) (first_free live ts ws fs rs (λ s. s) (omega arith)).0
    ]

-- a slot with an edge is that of a live place
pub live_at : (live : ℕ) (ts : List ℕ) (ws : List ℤ) (fs rs : List ℕ) (i : ℕ)
    → is_free_slot (get_or (slots_of live ts ws fs rs) i None) ≡ false → (i < 32) × InMask live i
live_at live ts ws fs rs i taken =
    grind (arith, common_steps, cases_lt, lives_or_not, true≢false, slot_dead, get_or_past, length-slots_of)

-- what the first slot that holds a target bears
pub stamp_found : (slots : List (Option Slot)) (target i : ℕ) (e : Slot) → i < length slots → get_or slots i None ≡ Some e →
    holds target (get_or slots i None) ≡ true → ((k : ℕ) → k < i → holds target (get_or slots k None) ≡ false) →
    (e.target ≡ target) × (stamp_at slots target ≡ Some e.stamp)
stamp_found slots target i e within is held before =
    let same : target ≡ e.target = target_of_edge e target (rw is at held) in (
      sym same,
      first_some_at (λ s. stamp_in_slot s target) slots i None e.stamp within (rw is (rw (eq-eqb target e.target same)))
          (λ k below. none_by_test (stamp_in_slot (get_or slots k None) target) (λ some. true≢false (sym some ∙ before k below))),
    )

-- a place taken out is that of the target
pub take_at : (live : ℕ) (ts : List ℕ) (ws : List ℤ) (fs rs : List ℕ) (target i : ℕ) → length ts ≡ 32 → IsPlaceOf ts live target i
    →
    ((other : ℕ) → IsPlaceOf ts live target other → i ≤ other) →
    (list_any (holds target) (slots_of live ts ws fs rs) ≡ true)
    × (take_slot target (slots_of live ts ws fs rs) ≡ set (slots_of live ts ws fs rs) i None)
take_at live ts ws fs rs target i lt at least =
    let within : i < length ts = at.within in
    let in_slots : i < length (slots_of live ts ws fs rs) = omega (arith, length-slots_of live ts ws fs rs) in
    let held : holds target (get_or (slots_of live ts ws fs rs) i None) ≡ true = holds_at live ts ws fs rs target i lt at in (
      list_any_at (holds target) (slots_of live ts ws fs rs) i None in_slots held,
      at_first-set (holds target) (λ _. None) (slots_of live ts ws fs rs) i None in_slots held
          (λ k below. not_holds_at live ts ws fs rs target k lt (omega arith)
          (λ there. absurd (let le : i ≤ k = least k there in omega arith))),
    )

-- what is found at the first place of the target
pub found_at : (live : ℕ) (ts : List ℕ) (ws : List ℤ) (fs rs : List ℕ) (target i : ℕ) (e : Slot) → length ts ≡ 32
    → IsPlaceOf ts live target i →
    ((other : ℕ) → IsPlaceOf ts live target other → i ≤ other) → get_or (slots_of live ts ws fs rs) i None ≡ Some e →
    (e.target ≡ target) × (stamp_at (slots_of live ts ws fs rs) target ≡ Some e.stamp)
found_at live ts ws fs rs target i e lt at least is =
    let within : i < length ts = at.within in
    stamp_found (slots_of live ts ws fs rs) target i e (omega (arith, length-slots_of live ts ws fs rs)) is
    (holds_at live ts ws fs rs target i lt at)
    (λ k below. not_holds_at live ts ws fs rs target k lt (omega arith)
    (λ there. absurd (let le : i ≤ k = least k there in omega arith)))

-- a live place's slot is not free
pub not_free_at : (live : ℕ) (ts : List ℕ) (ws : List ℤ) (fs rs : List ℕ) (i : ℕ) → i < 32 → InMask live i
    → is_free_slot (get_or (slots_of live ts ws fs rs) i None) ≡ false
not_free_at live ts ws fs rs i few lives = rw (slot_live live ts ws fs rs i None few lives)
