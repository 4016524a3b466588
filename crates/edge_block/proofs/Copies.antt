-- Columns that were copied up to the highest live place.
use Rattle.std.proofs.Common.{◌≡◌, ℕ, ◌<◌, ℤ, pos, List, length, get_or, sym, ◌∙◌, inl, inr, arith}
use Rattle.std.proofs.lemmas.List.{ext_get_or}
use Rattle.std.proofs.lemmas.Grind.{common_steps}
use Rattle.std.specs.{Prelude.slice_index, declared.option.Option.{Option, TheVariants.{None, Some}}}
use Rattle.lane_scan.specs.Masks.{InMask, selected}
use Rattle.lane_scan.proofs.{MaskPlaces.lives_or_not, Selected.selected_agree}
use Rattle.edge_block.specs.{Slots.Slot, Slots.BlockView, Slots.edge_slot, Columns.slots_of, Columns.AreColumns, Columns.AreTimes}
use Rattle.edge_block.proofs.Places.{length-slots_of, slot_live, slot_dead}

-- the same slots
pub slots_copied : (live : ℕ) (ts : List ℕ) (ws ws' : List ℤ) (fs fs' rs rs' : List ℕ) →
    ((k : ℕ) → k < 32 → InMask live k → get_or ws' k (pos 0) ≡ get_or ws k (pos 0)) →
    ((k : ℕ) → k < 32 → InMask live k → get_or fs' k 0 ≡ get_or fs k 0) →
    ((k : ℕ) → k < 32 → InMask live k → get_or rs' k 0 ≡ get_or rs k 0) →
    slots_of live ts ws' fs' rs' ≡ slots_of live ts ws fs rs
slots_copied live ts ws ws' fs fs' rs rs' same_ws same_fs same_rs =
    ext_get_or None (slots_of live ts ws' fs' rs') (slots_of live ts ws fs rs)
    (length-slots_of live ts ws' fs' rs' ∙ sym (length-slots_of live ts ws fs rs))
    (λ k within.
    let few : k < 32 = omega (arith, length-slots_of live ts ws' fs' rs') in
    elim (lives_or_not live k) [
      | inl lives ↦
          slot_live live ts ws' fs' rs' k None few lives
          ∙ (let edge : ℤ → ℕ → ℕ → Option Slot = λ w f r. Some (edge_slot (slice_index ts k) w f r) in
          λ i. edge (same_ws k few lives i) (same_fs k few lives i) (same_rs k few lives i))
          ∙ sym (slot_live live ts ws fs rs k None few lives)
      | inr dead ↦ slot_dead live ts ws' fs' rs' k None few dead ∙ sym (slot_dead live ts ws fs rs k None few dead)
    ])

pub columns_copied : (live : ℕ) (ts : List ℕ) (ws ws' : List ℤ) (fs fs' rs rs' : List ℕ) →
    ((k : ℕ) → k < 32 → InMask live k → get_or ws' k (pos 0) ≡ get_or ws k (pos 0)) →
    ((k : ℕ) → k < 32 → InMask live k → get_or fs' k 0 ≡ get_or fs k 0) →
    ((k : ℕ) → k < 32 → InMask live k → get_or rs' k 0 ≡ get_or rs k 0) →
    AreColumns live ts ws fs rs → AreColumns live ts ws' fs' rs'
columns_copied live ts ws ws' fs fs' rs rs' same_ws same_fs same_rs h = grind (arith, common_steps, slots_copied)

-- the same bounds
pub times_copied : (live : ℕ) (rs rs' : List ℕ) (times : ℕ × ℕ) → length rs ≡ 32 → length rs' ≡ 32 →
    ((k : ℕ) → k < 32 → InMask live k → get_or rs' k 0 ≡ get_or rs k 0) → AreTimes live rs times → AreTimes live rs' times
times_copied live rs rs' times long long' same h some =
    let agree : selected live rs' ≡ selected live rs =
    selected_agree live 0 rs' rs 0 (omega arith)
    (λ k m within e set. let at : k ≡ m = omega arith in same k (omega arith) (rw at set)) in
    rw agree (h some)

-- a block's number with another block's source, kind and slots
pub copied_block : (number : ℕ) (slots : List (Option Slot)) (seen old other : BlockView) → number ≡ old.number
    → slots ≡ seen.slots → seen ≡ other →
    (let b : BlockView = record { number = number; source = seen.source; kind = seen.kind; slots = slots } in b)
    ≡ record { number = old.number; source = other.source; kind = other.kind; slots = other.slots }
copied_block number slots seen old other e f g = grind (arith, common_steps)
