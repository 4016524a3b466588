-- The edges at the places of a mask, and how many edges there are.
use Rattle.std.proofs.Common.{◌≡◌, ◌↔◌, ℕ, suc, ◌+◌, ◌^◌, ◌<◌, ◌≤◌, ℤ, Bool, true, false, not, List, [], ◌∷◌, length, get_or, map}
use Rattle.std.proofs.{Common.{refl, sym, ap, ◌∙◌, inl, inr, arith, cond}, lemmas.Bool.{eq-eqb, eqb-true, ne_eqb}}
use Rattle.std.proofs.lemmas.{Simd.{mask_l-lt, bit_mask_l, ones-mask_l}, List.{nil_from_length, length-map, get_or-map}}
use Rattle.std.proofs.lemmas.{List.Sums.{sum_by-cons, count_by-le-length}, Nat.{zero_from_ones, Bits.same_from_bits_below}}
use Rattle.std.{proofs.lemmas.Nat.Bits.bit_at-lt, specs.{Prelude.{◌==◌, if◌then◌else◌, filter, count_by}, Int.bit_at}}
use Rattle.std.specs.{Int.RustNames.count_ones, Option.option_map, declared.option.Option.{Option, TheVariants.{None, Some}}}
use Rattle.std.proofs.lemmas.Grind.{common_steps}
use lib.Lanes.{mask_l}
use Rattle.lane_scan.specs.Masks.{selected_from, selected}
use Rattle.lane_scan.proofs.MaskPlaces.{lives_or_not}
use Rattle.edge_block.specs.{Slots.Slot, Slots.is_free_slot, Slots.edges_in, Columns.slots_of}
use Rattle.edge_block.proofs.Places.{length-slots_of, slot_live, slot_dead}

abbrev pub is_taken : Option Slot → Bool
is_taken s = not (is_free_slot s)

-- as many slots are taken as there are edges
edges_counted : (slots : List (Option Slot)) → count_by is_taken slots ≡ length (edges_in slots)
edges_counted [] = refl
edges_counted (None ∷ slots) = sum_by-cons (λ s. cond (is_taken s) 1 0) None slots ∙ omega (arith, edges_counted slots)
edges_counted (Some e ∷ slots) = sum_by-cons (λ s. cond (is_taken s) 1 0) (Some e) slots ∙ omega (arith, edges_counted slots)

-- no more edges than slots
pub edges_few : (slots : List (Option Slot)) → length (edges_in slots) ≤ length slots
edges_few slots = omega (arith, edges_counted slots, count_by-le-length is_taken slots)

-- the word of live places has a bit for each slot that is taken
pub live_as_mask : (live : ℕ) (ts : List ℕ) (ws : List ℤ) (fs rs : List ℕ) → live < 2 ^ 32
    → live ≡ mask_l (map is_taken (slots_of live ts ws fs rs))
live_as_mask live ts ws fs rs fits =
    let long : length (map is_taken (slots_of live ts ws fs rs)) ≡ 32 =
    length-map (slots_of live ts ws fs rs) is_taken ∙ length-slots_of live ts ws fs rs in
    let below : mask_l (map is_taken (slots_of live ts ws fs rs)) < 2 ^ 32 =
    rw long at (mask_l-lt (map is_taken (slots_of live ts ws fs rs))) in
    same_from_bits_below 32 live (mask_l (map is_taken (slots_of live ts ws fs rs))) fits below
    (λ i few.
    let in_slots : i < length (slots_of live ts ws fs rs) = omega (arith, length-slots_of live ts ws fs rs) in
    let bit : bit_at (mask_l (map is_taken (slots_of live ts ws fs rs))) i
    ≡ cond (is_taken (get_or (slots_of live ts ws fs rs) i None)) 1 0 =
    bit_mask_l (map is_taken (slots_of live ts ws fs rs)) i
    ∙ ap (λ b. cond b 1 0) (get_or-map is_taken (slots_of live ts ws fs rs) i None false in_slots) in
    elim (lives_or_not live i) [
      | inl lives ↦ lives ∙ sym (bit ∙ ap (λ s. cond (is_taken s) 1 0) (slot_live live ts ws fs rs i None few lives))
      | inr dead ↦ (let zero_bit : bit_at live i ≡ 0 = omega (arith, bit_at-lt live i) in zero_bit)
          ∙ sym (bit ∙ ap (λ s. cond (is_taken s) 1 0) (slot_dead live ts ws fs rs i None few dead))
    ])

-- as many bits are set as there are edges
pub edges_by_ones : (live : ℕ) (ts : List ℕ) (ws : List ℤ) (fs rs : List ℕ) → live < 2 ^ 32
    → count_ones live ≡ length (edges_in (slots_of live ts ws fs rs))
edges_by_ones live ts ws fs rs fits =
    ap count_ones (live_as_mask live ts ws fs rs fits) ∙ ones-mask_l is_taken (slots_of live ts ws fs rs)
    ∙ edges_counted (slots_of live ts ws fs rs)

-- what a slot has of its edge, where the place is in the mask
shown_after : {X : Type 0} (h : Slot → X) (b : Bool) (s : Option Slot) (x : X) (slots : List (Option Slot)) (xs : List X) →
    option_map h s ≡ (if b then Some x else None) → xs ≡ map h (edges_in slots)
    → (if b then x ∷ xs else xs) ≡ map h (edges_in (s ∷ slots))
shown_after h h1 h2 x slots xs is rest = grind (arith, common_steps)

-- the items of a column at the places in a mask are those of the edges, where the mask is that of the slots taken
pub selected_from_edges : {X : Type 0} (h : Slot → X) (mask place : ℕ) (xs : List X) (slots : List (Option Slot)) (d : X)
    → length xs ≡ length slots →
    ((k n : ℕ) → k < length xs → place + k ≡ n
    → option_map h (get_or slots k None) ≡ (if bit_at mask n == 1 then Some (get_or xs k d) else None)) →
    selected_from mask place xs ≡ map h (edges_in slots)
selected_from_edges h mask place [] [] d long is = refl
selected_from_edges h mask place (x ∷ xs) (s ∷ slots) d long is =
    shown_after h (bit_at mask place == 1) s x slots (selected_from mask (place + 1) xs) (is 0 place (omega arith) (omega arith))
    (selected_from_edges h mask (place + 1) xs slots d (omega arith) (λ k n within e. is (suc k) n (omega arith) (omega arith)))
selected_from_edges h mask place _ _ d long is = absurd (omega arith)

-- the recent times at the live places
pub selected_recents : (live : ℕ) (ts : List ℕ) (ws : List ℤ) (fs rs : List ℕ) → length rs ≡ 32 →
    selected live rs ≡ map (λ e. e.stamp.recent) (edges_in (slots_of live ts ws fs rs))
selected_recents live ts ws fs rs long =
    selected_from_edges (λ e. e.stamp.recent) live 0 rs (slots_of live ts ws fs rs) 0
    (omega (arith, length-slots_of live ts ws fs rs))
    (λ k n within e.
    let same : k ≡ n = omega arith in
    rw same (elim (lives_or_not live n) [
      | inl lives ↦ rw (slot_live live ts ws fs rs n None (omega arith) lives, eq-eqb (bit_at live n) 1 lives)
      | inr dead ↦ rw (slot_dead live ts ws fs rs n None (omega arith) dead, ne_eqb (bit_at live n) 1 dead)
    ]))

-- the edge of a slot whose place may be in a mask
kept_after : (p : Slot → Bool) (b : Bool) (s : Option Slot) (chosen slots : List (Option Slot)) →
    ((e : Slot) → s ≡ Some e → b ≡ p e) → edges_in chosen ≡ filter p (edges_in slots) →
    edges_in (if b then s ∷ chosen else chosen) ≡ filter p (edges_in (s ∷ slots))
kept_after p h1 h2 chosen slots agrees rest = grind (arith, common_steps)

-- the edges at the places in a mask are those that pass a test, where the mask has the places of these
pub edges_filtered : (p : Slot → Bool) (mask place : ℕ) (slots : List (Option Slot)) →
    ((k n : ℕ) (e : Slot) → k < length slots → place + k ≡ n → get_or slots k None ≡ Some e → (bit_at mask n == 1) ≡ p e) →
    edges_in (selected_from mask place slots) ≡ filter p (edges_in slots)
edges_filtered p mask place [] agrees = refl
edges_filtered p mask place (s ∷ slots) agrees =
    kept_after p (bit_at mask place == 1) s (selected_from mask (place + 1) slots) slots
    (λ e is. agrees 0 place e (omega arith) (omega arith) is)
    (edges_filtered p mask (place + 1) slots (λ k n e within at is. agrees (suc k) n e (omega arith) (omega arith) is))

-- no bit is set where there is no edge
pub empty_by_word : (live : ℕ) (ts : List ℕ) (ws : List ℤ) (fs rs : List ℕ) → live < 2 ^ 32
    → ((live == 0) ≡ true) ↔ (edges_in (slots_of live ts ws fs rs) ≡ [])
unfolding count_ones
empty_by_word live ts ws fs rs fits = (
  (λ zero_word.
      let none : live ≡ 0 = eqb-true live 0 zero_word in
      let ones : count_ones live ≡ 0 = rw none refl in
      nil_from_length (edges_in (slots_of live ts ws fs rs)) (sym (edges_by_ones live ts ws fs rs fits) ∙ ones)),
  (λ none. eq-eqb live 0 (zero_from_ones live (edges_by_ones live ts ws fs rs fits ∙ ap length none))),
)
