-- Blocks with the same targets at the same places.
use Rattle.std.proofs.{Common.{◌≡◌, ℕ, ◌^◌, ◌<◌, ℤ, List, length, get_or, sym, ap, ◌∙◌, inl, inr, arith}, lemmas.List.ext_get_or}
use Rattle.std.proofs.lemmas.{List.{length-map, get_or-map}, Nat.Bits.{same_from_bits_below, bit_at-lt}}
use Rattle.std.specs.{Prelude.slice_index, Int.bit_at, declared.option.Option.{Option, TheVariants.{None, Some}}}
use Rattle.lane_scan.specs.Masks.{InMask}
use Rattle.lane_scan.proofs.MaskPlaces.{lives_or_not}
use Rattle.edge_block.specs.{Slots.slot_target, Slots.targets_in, Columns.slots_of, Columns.AreColumns}
use Rattle.edge_block.proofs.Places.{length-slots_of, slot_live, slot_dead}

-- the target at a live place, and at a dead one
target_live : (live : ℕ) (ts : List ℕ) (ws : List ℤ) (fs rs : List ℕ) (i : ℕ) → i < 32 → InMask live i →
    get_or (targets_in (slots_of live ts ws fs rs)) i None ≡ Some (slice_index ts i)
target_live live ts ws fs rs i few lives =
    let in_slots : i < length (slots_of live ts ws fs rs) = omega (arith, length-slots_of live ts ws fs rs) in
    get_or-map slot_target (slots_of live ts ws fs rs) i None None in_slots
    ∙ ap slot_target (slot_live live ts ws fs rs i None few lives)

target_dead : (live : ℕ) (ts : List ℕ) (ws : List ℤ) (fs rs : List ℕ) (i : ℕ) → i < 32 → (InMask live i → ⊥) →
    get_or (targets_in (slots_of live ts ws fs rs)) i None ≡ None
target_dead live ts ws fs rs i few dead =
    let in_slots : i < length (slots_of live ts ws fs rs) = omega (arith, length-slots_of live ts ws fs rs) in
    get_or-map slot_target (slots_of live ts ws fs rs) i None None in_slots
    ∙ ap slot_target (slot_dead live ts ws fs rs i None few dead)

-- the targets come from the word of live places and the column of targets alone
pub targets_in-same : (live live' : ℕ) (ts ts' : List ℕ) (ws ws' : List ℤ) (fs fs' rs rs' : List ℕ) → live ≡ live' → ts ≡ ts' →
    targets_in (slots_of live ts ws fs rs) ≡ targets_in (slots_of live' ts' ws' fs' rs')
targets_in-same live live' ts ts' ws ws' fs fs' rs rs' e f =
    rw (e, f) (ext_get_or None (targets_in (slots_of live' ts' ws fs rs)) (targets_in (slots_of live' ts' ws' fs' rs'))
    (length-map (slots_of live' ts' ws fs rs) slot_target ∙ length-slots_of live' ts' ws fs rs
    ∙ sym (length-map (slots_of live' ts' ws' fs' rs') slot_target ∙ length-slots_of live' ts' ws' fs' rs'))
    (λ i within.
    let few : i < 32 = omega (arith, length-map (slots_of live' ts' ws fs rs) slot_target, length-slots_of live' ts' ws fs rs) in
    elim (lives_or_not live' i) [
      | inl lives ↦ target_live live' ts' ws fs rs i few lives ∙ sym (target_live live' ts' ws' fs' rs' i few lives)
      | inr dead ↦ target_dead live' ts' ws fs rs i few dead ∙ sym (target_dead live' ts' ws' fs' rs' i few dead)
    ]))

-- equal targets at one place
one_place : (live live' : ℕ) (ts ts' : List ℕ) (ws ws' : List ℤ) (fs fs' rs rs' : List ℕ) → AreColumns live ts ws fs rs
    → AreColumns live' ts' ws' fs' rs' →
    targets_in (slots_of live ts ws fs rs) ≡ targets_in (slots_of live' ts' ws' fs' rs') → (i : ℕ) → i < 32 →
    (bit_at live i ≡ bit_at live' i) × (slice_index ts i ≡ slice_index ts' i)
one_place live live' ts ts' ws ws' fs fs' rs rs' h h' e i few =
    let at : get_or (targets_in (slots_of live ts ws fs rs)) i None
    ≡ get_or (targets_in (slots_of live' ts' ws' fs' rs')) i None = ap (λ xs. get_or xs i None) e in
    elim (lives_or_not live i) [
      | inl lives ↦ elim (lives_or_not live' i) [
        | inl lives' ↦ (
          lives ∙ sym lives',
          (let same : (let x : Option ℕ = Some (slice_index ts i) in x)
              ≡ Some (slice_index ts' i) = sym (target_live live ts ws fs rs i few lives) ∙ at
              ∙ target_live live' ts' ws' fs' rs' i few lives' in cc),
        )
        | inr dead' ↦ (let same : (let x : Option ℕ = Some (slice_index ts i) in x)
            ≡ None = sym (target_live live ts ws fs rs i few lives) ∙ at ∙ target_dead live' ts' ws' fs' rs' i few dead' in cc)
      ]
      | inr dead ↦ elim (lives_or_not live' i) [
        | inl lives' ↦ (let same : (let x : Option ℕ = None in x)
            ≡ Some (slice_index ts' i) = sym (target_dead live ts ws fs rs i few dead) ∙ at
            ∙ target_live live' ts' ws' fs' rs' i few lives' in cc)
        | inr dead' ↦ (omega (arith, bit_at-lt live i, bit_at-lt live' i), h.cleared i few dead ∙ sym (h'.cleared i few dead'))
      ]
    ]

-- blocks with the same targets have the same word and the same column
pub columns_from_targets : (live live' : ℕ) (ts ts' : List ℕ) (ws ws' : List ℤ) (fs fs' rs rs' : List ℕ)
    → AreColumns live ts ws fs rs → AreColumns live' ts' ws' fs' rs' →
    live < 2 ^ 32 → live' < 2 ^ 32 → length ts ≡ 32 → length ts' ≡ 32 →
    targets_in (slots_of live ts ws fs rs) ≡ targets_in (slots_of live' ts' ws' fs' rs') → (live ≡ live') × (ts ≡ ts')
columns_from_targets live live' ts ts' ws ws' fs fs' rs rs' h h' fits fits' long long' e = (
  same_from_bits_below 32 live live' fits fits' (λ i few. (one_place live live' ts ts' ws ws' fs fs' rs rs' h h' e i few).0),
  ext_get_or 0 ts ts' (long ∙ sym long')
      (λ i within. (one_place live live' ts ts' ws ws' fs fs' rs rs' h h' e i (omega arith)).1),
)
