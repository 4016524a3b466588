-- What an expiry changes in slots, in blocks and in a source's row.
use Rattle.std.proofs.Common.{◌≡◌, ℕ, List, [], ◌∷◌, true, false, cond, ◌||◌, refl, sym, ap, ◌∙◌, map, All, Option}
use Rattle.std.proofs.{Common.{arith, Some, None, is_some, get_or}, lemmas.{Bool.true≢false, List.Elements.{All-head, All-tail}}}
use Rattle.std.{proofs.lemmas.List.Elements.{All-map, All-weaker}, specs.Option.option_or}
use Rattle.std.proofs.lemmas.Grind.{common_steps}
use Rattle.graph_types.specs.{Graph.Stamp, Step.is_before, Step.stays_from}
use Rattle.graph_types.proofs.PickedStamps.{stays_or, was_there, within_kind}
use Rattle.edge_block.specs.Slots.{Slot, stamp_in_slot, stamp_at, AreDistinct, NoKeyTwice, first_some, slot_since, slots_since}
use Rattle.edge_block.specs.{Slots.has_before, Rows.{OpenBlock, open_at, edge_at, expire_block, expire_row}}
use Rattle.edge_block.proofs.RowLaws.{IsOpenRow, Within}

-- elements of which each has what stays of what it had
module _ {A K : Type 0} (at : A → K → Option Stamp) (f : A → A) (time : ℕ) where
  abbrev Stays : A → Type 0
  Stays x = (q : K) → at (f x) q ≡ stays_from time (at x q)

  first_stays : (xs : List A) → All Stays xs → NoKeyTwice at xs → (q : K)
      → first_some (λ y. at y q) (map f xs) ≡ stays_from time (first_some (λ y. at y q) xs)
  first_stays [] each once q = refl
  first_stays (x ∷ xs) each once q =
      ap (λ o. option_or o (first_some (λ y. at y q) (map f xs))) (All-head Stays x xs each q)
      ∙ ap (option_or (stays_from time (at x q))) (first_stays xs (All-tail Stays x xs each) once.1 q)
      ∙ stays_or time (at x q) (first_some (λ y. at y q) xs) (once.0 q)

  once_stays : (xs : List A) → All Stays xs → NoKeyTwice at xs → NoKeyTwice at (map f xs)
  once_stays [] each once = tt
  once_stays (x ∷ xs) each once = (
    λ q is.
        first_stays xs (All-tail Stays x xs each) once.1 q
        ∙ ap (stays_from time) (once.0 q (was_there time (at x q) (ap is_some (sym (All-head Stays x xs each q)) ∙ is))),
    once_stays xs (All-tail Stays x xs each) once.1,
  )

-- Slots

slot_stays : (time : ℕ) (s : Option Slot) (q : ℕ) → stamp_in_slot (slot_since time s) q ≡ stays_from time (stamp_in_slot s q)
slot_stays time h1 q = grind (arith, common_steps)

every_slot : (time : ℕ) (slots : List (Option Slot)) → All (Stays stamp_in_slot (slot_since time) time) slots
every_slot time slots k d h = slot_stays time (get_or slots k d)

pub slots_stay : (time : ℕ) (slots : List (Option Slot)) → AreDistinct slots → (q : ℕ)
    → stamp_at (slots_since time slots) q ≡ stays_from time (stamp_at slots q)
slots_stay time slots u q = first_stays stamp_in_slot (slot_since time) time slots (every_slot time slots) u q

pub slots_distinct : (time : ℕ) (slots : List (Option Slot)) → AreDistinct slots → AreDistinct (slots_since time slots)
slots_distinct time slots u = once_stays stamp_in_slot (slot_since time) time slots (every_slot time slots) u

-- slots without an old edge stay as they are
pub slots_kept : (time : ℕ) (slots : List (Option Slot)) → has_before time slots ≡ false → slots_since time slots ≡ slots
slots_kept time [] none = refl
slots_kept time (None ∷ slots) none = ap (λ xs. None ∷ xs) (slots_kept time slots none)
slots_kept time (Some e ∷ slots) none =
    elim (is_before time e.stamp) as (λ b. is_before time e.stamp ≡ b
    → (b || has_before time slots) ≡ false
    → cond b None (Some e) ∷ slots_since time slots ≡ Some e ∷ slots) [
      | true ↦ λ t h. absurd (true≢false h)
      | false ↦ λ t h. ap (λ xs. Some e ∷ xs) (slots_kept time slots h)
    ] refl none

-- Blocks

expired_slots : (time : ℕ) (b : OpenBlock) → (expire_block time b).shape.slots ≡ slots_since time b.shape.slots
expired_slots time b = grind (arith, common_steps, slots_kept)

expired_kind : (time : ℕ) (b : OpenBlock) → (expire_block time b).shape.kind ≡ b.shape.kind
expired_kind time b = grind (arith, common_steps)

block_stays : (time : ℕ) (b : OpenBlock) → AreDistinct b.shape.slots → Stays open_at (expire_block time) time b
block_stays time b u q = grind (arith, common_steps, expired_kind, expired_slots, slots_stay, within_kind)

every_block : (time : ℕ) (row : List OpenBlock) → All Within row → All (Stays open_at (expire_block time) time) row
every_block time row all = All-weaker Within (Stays open_at (expire_block time) time) (block_stays time) row all

every_within : (time : ℕ) (row : List OpenBlock) → All Within row → All Within (expire_row time row)
every_within time row all =
    All-map Within (expire_block time) row (All-weaker Within (λ b. Within (expire_block time b))
    (λ b u. rw (expired_slots time b) (slots_distinct time b.shape.slots u)) row all)

-- a row has afterwards what stays of what it had, and stays a row
pub expire_stays : (time : ℕ) (row : List OpenBlock) → IsOpenRow row → (q : ℕ × ℕ)
    → edge_at (expire_row time row) q ≡ stays_from time (edge_at row q)
expire_stays time row u q = first_stays open_at (expire_block time) time row (every_block time row u.within) u.between q

pub expire_open : (time : ℕ) (row : List OpenBlock) → IsOpenRow row → IsOpenRow (expire_row time row)
expire_open time row u = record {
  within = every_within time row u.within;
  between = once_stays open_at (expire_block time) time row (every_block time row u.within) u.between;
}
