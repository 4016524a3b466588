-- The slots that a word of live places and four columns make.
use Rattle.std.specs.Prelude.{◌≡◌, ℕ, ◌*◌, ◌%◌, ◌^◌, ◌<◌, ◌==◌, ℤ, pos, List, map, slice_index, slice_index_or, if◌then◌else◌}
use Rattle.std.specs.{Prelude.All, Int.{bit_at, bit_not, w32, RustNames.bit_and}, List.range_with_len}
use Rattle.std.specs.declared.option.Option.{Option, TheVariants.{None, Some}}
use Rattle.lane_scan.specs.Masks.{InMask, AreBoundsOf, selected}
use Rattle.edge_block.specs.Slots.{Slot, edge_slot, AreDistinct, IsSlot}

-- what the columns have at a place, be it live or not
abbrev pub column_slot : List ℕ → List ℤ → List ℕ → List ℕ → ℕ → Slot
column_slot targets weights firsts recents place =
    edge_slot (slice_index targets place) (slice_index_or weights place (pos 0)) (slice_index firsts place)
    (slice_index recents place)

-- the slot at a place: it has an edge where the place is live
abbrev pub slot_from : ℕ → List ℕ → List ℤ → List ℕ → List ℕ → ℕ → Option Slot
slot_from live targets weights firsts recents place =
    if bit_at live place == 1 then Some (column_slot targets weights firsts recents place) else None

-- the 32 slots
unfoldable pub slots_of : ℕ → List ℕ → List ℤ → List ℕ → List ℕ → List (Option Slot)
slots_of live targets weights firsts recents = map (slot_from live targets weights firsts recents) (range_with_len 0 32)

-- what a block keeps true of its columns: the live targets are distinct, each live weight and time is in
-- range, and a dead place has the target 0, so that equal slots have equal columns of targets
pub record AreColumns (live : ℕ) (targets : List ℕ) (weights : List ℤ) (firsts recents : List ℕ) : Type 0 where
  pub distinct : AreDistinct (slots_of live targets weights firsts recents)
  pub stamped : All IsSlot (slots_of live targets weights firsts recents)
  pub cleared : (place : ℕ) → place < 32 → (InMask live place → ⊥) → slice_index targets place ≡ 0

-- what a block keeps true of its bounds: where a place is live, they are the least and the greatest recent time at
-- the live places
abbrev pub AreTimes : ℕ → List ℕ → ℕ × ℕ → Type 0
AreTimes live recents times = 0 < live → AreBoundsOf (selected live recents) (Some times)

-- the word of live places without one
abbrev pub cleared_at : ℕ → ℕ → ℕ
cleared_at live place = bit_and live (bit_not w32 (1 * 2 ^ place % 2 ^ 32))
