-- The laws on slots.
use Rattle.std.specs.{Prelude.{◌≡◌, ℕ, ◌==◌, ◌↔◌, List, false, if◌then◌else◌, Contains, IsTrue}, List.list_any}
use Rattle.std.specs.declared.option.Option.{Option, TheVariants.{None, Some}}
use Rattle.graph_types.specs.Graph.{Key, Stamp}
use Rattle.edge_block.specs.Slots.{Slot, BlockView, AreDistinct, holds, has_room_for, stamp_at, put_slot, take_slot, entries_of}

-- after a put the target has the edge, and every other target has what it had
abbrev pub PutIsFound : Type 0
PutIsFound =
    (e : Slot) (slots : List (Option Slot)) → AreDistinct slots → IsTrue (has_room_for e.target slots) → (target : ℕ)
    → stamp_at (put_slot e slots) target ≡ (if target == e.target then Some e.stamp else stamp_at slots target)

-- after a take the target has nothing, and every other target has what it had
abbrev pub TakeIsGone : Type 0
TakeIsGone =
    (taken : ℕ) (slots : List (Option Slot)) → AreDistinct slots → (target : ℕ)
    → stamp_at (take_slot taken slots) target ≡ (if target == taken then None else stamp_at slots target)

-- a search finds nothing exactly where no slot holds the target
abbrev pub AbsentIsNone : Type 0
AbsentIsNone = (slots : List (Option Slot)) (target : ℕ)
    → (stamp_at slots target ≡ None) ↔ (list_any (holds target) slots ≡ false)

-- a key and a stamp in a block: of its kind and source, and what stands at the target
pub record StandsIn (b : BlockView) (key : Key) (stamp : Stamp) : Type 0 where
  pub of_kind : key.kind ≡ b.kind
  pub of_source : key.source ≡ b.source
  pub stands : stamp_at b.slots key.target ≡ Some stamp

-- a block's entries are what stands in it
abbrev pub EntriesAreFound : Type 0
EntriesAreFound = (b : BlockView) → AreDistinct b.slots → (key : Key) (stamp : Stamp)
    → Contains (entries_of b) (key, stamp) ↔ StandsIn b key stamp
