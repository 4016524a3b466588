-- A row without an edge from before a time has none after one of its edges changed.
use Rattle.std.proofs.Common.{◌≡◌, ℕ, zero, suc, Bool, true, false, cond, List, [], ◌∷◌, ◌++◌, replicate, refl, arith, ◌≤◌}
use Rattle.std.proofs.lemmas.{Grind.common_steps, List.Sums.sum_by-append}
use Rattle.std.specs.{List.list_any, declared.option.Option.{Option, TheVariants.{None, Some}}}
use Rattle.std.proofs.lemmas.Bool.{le-ltb}
use Rattle.graph_types.specs.{Graph.Stamp, Step.is_before}
use Rattle.graph_types.specs.{Step.{outcome_at, stamp_after}, declared.changes.EdgeChange.EdgeChange}
use Rattle.graph_types.proofs.PickedStamps.{IsFrom}
use Rattle.edge_block.specs.Rows.{OpenBlock, old_in_row, touch, set_edge, has_edge, has_room, new_block, touches, change_row}
use Rattle.edge_block.specs.Slots.{old_in, Slot, at_first, put_slot, holds, is_free_slot, take_slot}
use Rattle.edge_block.specs.Rows.{edge_at}
use Rattle.edge_block.proofs.OldSlots.{young_before}

slots_free : (s n : ℕ) → old_in s (replicate n None) ≡ 0
slots_free s zero = refl
slots_free s (suc n) = slots_free s n

-- a slot that is written with nothing old makes none old
slot_young : (s : ℕ) (p : Option Slot → Bool) (o : Option Slot) (slots : List (Option Slot)) → old_in s (o ∷ []) ≡ 0
    → old_in s slots ≡ 0 → old_in s (at_first p (λ _. o) slots) ≡ 0
slot_young s p o [] new young = young
slot_young s p o (x ∷ slots) new young = grind (arith, common_steps, slot_young s p o slots)

put_young : (s : ℕ) (e : Slot) (slots : List (Option Slot)) → is_before s e.stamp ≡ false → old_in s slots ≡ 0
    → old_in s (put_slot e slots) ≡ 0
put_young s e slots new young =
    let one : old_in s (Some e ∷ []) ≡ 0 = grind (arith, common_steps) in
    elim (list_any (holds e.target) slots) as (λ b. old_in s (cond b (at_first (holds e.target) (λ _. Some e) slots)
    (at_first is_free_slot (λ _. Some e) slots)) ≡ 0) [
      | true ↦ slot_young s (holds e.target) (Some e) slots one young
      | false ↦ slot_young s is_free_slot (Some e) slots one young
    ]

take_young : (s target : ℕ) (slots : List (Option Slot)) → old_in s slots ≡ 0 → old_in s (take_slot target slots) ≡ 0
take_young s target slots young = slot_young s (holds target) None slots refl young

touched_young : (s : ℕ) (p : OpenBlock → Bool) (f : List (Option Slot) → List (Option Slot))
    → ((slots : List (Option Slot)) → old_in s slots ≡ 0 → old_in s (f slots) ≡ 0)
    → (row : List OpenBlock) → old_in_row s row ≡ 0 → old_in_row s (at_first p (touch f) row) ≡ 0
touched_young s p f keeps [] young = young
touched_young s p f keeps (b ∷ row) young = grind (arith, common_steps, touched_young s p f keeps row)

pub set_young : (s : ℕ) (place : ℕ × ℕ) (o : Option Stamp) (row : List OpenBlock)
    → ((x : Stamp) → o ≡ Some x → is_before s x ≡ false) → old_in_row s row ≡ 0 → old_in_row s (set_edge place o row) ≡ 0
set_young s place None row new young = touched_young s (has_edge place) (take_slot place.1) (take_young s place.1) row young
set_young s place (Some x) row new young =
    let e : Slot = record { target = place.1; stamp = x } in
    let own : is_before s x ≡ false = new x refl in
    let put : (slots : List (Option Slot)) → old_in s slots ≡ 0 → old_in s (put_slot e slots) ≡ 0
    = λ slots. put_young s e slots own in
    elim (list_any (has_edge place) row) as (λ b. old_in_row s (cond b (at_first (has_edge place) (touch (put_slot e)) row)
    (cond (list_any (λ b. has_room place.0 b.shape) row) (at_first (λ b. has_room place.0 b.shape) (touch (put_slot e)) row)
    (row ++ new_block place.0 e ∷ []))) ≡ 0) [
      | true ↦ touched_young s (has_edge place) (put_slot e) put row young
      | false ↦ elim (list_any (λ b. has_room place.0 b.shape) row) as (λ b. old_in_row s (cond b
          (at_first (λ b. has_room place.0 b.shape) (touch (put_slot e)) row) (row ++ new_block place.0 e ∷ [])) ≡ 0) [
            | true ↦ touched_young s (λ b. has_room place.0 b.shape) (put_slot e) put row young
            | false ↦
                let a = sum_by-append (λ (b : OpenBlock). old_in s b.shape.slots) row (new_block place.0 e ∷ []) in
                let one : old_in s (Some e ∷ replicate 31 None) ≡ 0 = grind (arith, common_steps, slots_free s 31) in
                omega arith
          ]
    ]

written_from : (s : ℕ) (change : EdgeChange) (before : Option Stamp) (x : Stamp) → IsFrom s change
    → touches (outcome_at change before) ≡ true → stamp_after change before ≡ Some x → is_before s x ≡ false
written_from s change before x from t e = grind (arith, common_steps, le-ltb)

pub change_young : (s since : ℕ) (change : EdgeChange) (place : ℕ × ℕ) (row : List OpenBlock) → s ≤ since → IsFrom s change
    → old_in_row since row ≡ 0 → old_in_row s (change_row change place row) ≡ 0
change_young s since change place row le from young =
    let before = edge_at row place in
    let own = young_before s since row le young in
    elim (touches (outcome_at change before)) as (λ b. touches (outcome_at change before) ≡ b
    → old_in_row s (cond b (set_edge place (stamp_after change before) row) row) ≡ 0) [
      | true ↦ λ t. set_young s place (stamp_after change before) row
          (λ x e. written_from s change before x from t e) own
      | false ↦ λ _. own
    ] refl
