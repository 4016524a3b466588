-- The row of a source: its blocks, and how one operation changes them.
use Rattle.std.specs.Prelude.{ℕ, ◌==◌, List, [], ◌∷◌, ◌++◌, map, filter, count_by, replicate, All, Bool, true, false, not, ◌&&◌}
use Rattle.std.specs.{Prelude.if◌then◌else◌, List.{list_any, list_all, sum_by}, Option.is_some, declared.option.Option.Option}
use Rattle.std.specs.declared.option.Option.TheVariants.{None, Some}
use Rattle.graph_types.specs.{Graph.{Key, Stamp}, declared.{changes.EdgeChange.EdgeChange, batches.Outcome.Outcome}}
use Rattle.graph_types.specs.{declared.batches.Outcome.TheVariants.{Inserted, Updated, Removed}, Step.{stamp_after, outcome_at}}
use Rattle.edge_block.specs.Slots.{BlockView, Slot, is_free_slot, stamp_at, AreDistinct, at_first, put_slot, take_slot, edges_in}
use Rattle.edge_block.specs.Slots.{first_some, NoKeyTwice, slots_since, old_in, has_before}

-- a block without its number and source: its kind and its 32 slots
pub record Shape : Type 0 where
  pub kind : ℕ
  pub slots : List (Option Slot)

abbrev pub shape_of : BlockView → Shape
shape_of b = record { kind = b.kind; slots = b.slots }

-- what a block's edge of a kind to a target bears
abbrev pub block_at : Shape → ℕ × ℕ → Option Stamp
block_at b place = if place.0 == b.kind then stamp_at b.slots place.1 else None

abbrev pub has_room : ℕ → Shape → Bool
has_room kind b = (kind == b.kind) && list_any is_free_slot b.slots

abbrev pub has_none : Shape → Bool
has_none b = list_all is_free_slot b.slots

-- what the row's edge of a kind to a target bears
abbrev pub row_at : List Shape → ℕ × ℕ → Option Stamp
row_at row place = first_some (λ b. block_at b place) row

-- no two slots of a row have edges of one kind to one target
pub record IsRow (row : List Shape) : Type 0 where
  pub within : All (λ b. AreDistinct b.slots) row
  pub between : NoKeyTwice block_at row

-- the edges of a row, in row order, slots rising
abbrev pub row_entries : ℕ → List Shape → List (Key × Stamp)
row_entries source [] = []
row_entries source (b ∷ row) =
    map (λ e. (record { kind = b.kind; source = source; target = e.target }, e.stamp)) (edges_in b.slots)
    ++ row_entries source row

-- a block of a row while a batch goes on: whether an operation of the batch has touched it, and whether the row had
-- it before the batch
pub record OpenBlock : Type 0 where
  pub shape : Shape
  pub touched : Bool
  pub had : Bool

abbrev pub shapes : List OpenBlock → List Shape
shapes row = map (λ b. b.shape) row

abbrev pub untouched : Shape → OpenBlock
untouched b = record { shape = b; touched = false; had = true }

abbrev pub open_at : OpenBlock → ℕ × ℕ → Option Stamp
open_at b place = block_at b.shape place

abbrev pub edge_at : List OpenBlock → ℕ × ℕ → Option Stamp
edge_at row place = first_some (λ b. open_at b place) row

abbrev pub has_edge : ℕ × ℕ → OpenBlock → Bool
has_edge place b = is_some (open_at b place)

-- a block with its slots changed
abbrev pub touch : (List (Option Slot) → List (Option Slot)) → OpenBlock → OpenBlock
touch f b = record { shape = record { kind = b.shape.kind; slots = f b.shape.slots }; touched = true; had = b.had }

abbrev pub new_block : ℕ → Slot → OpenBlock
new_block kind e = record { shape = record { kind = kind; slots = Some e ∷ replicate 31 None }; touched = true; had = false }

-- an edge goes over the edge of its kind to its target; else into the first block of its kind that is not full, at
-- the lowest free slot; else into a block that is appended, as STINGER fills its lists of blocks
abbrev pub put_edge : ℕ → Slot → List OpenBlock → List OpenBlock
put_edge kind e row =
    if list_any (has_edge (kind, e.target)) row then at_first (has_edge (kind, e.target)) (touch (put_slot e)) row
    else (if list_any (λ b. has_room kind b.shape) row then at_first (λ b. has_room kind b.shape) (touch (put_slot e)) row
    else row ++ new_block kind e ∷ [])

-- the row with this at a kind and a target
abbrev pub set_edge : ℕ × ℕ → Option Stamp → List OpenBlock → List OpenBlock
set_edge place None row = at_first (has_edge place) (touch (take_slot place.1)) row
set_edge place (Some stamp) row = put_edge place.0 (record { target = place.1; stamp = stamp }) row

-- an outcome of a change that touches a block; a change has none of an expiry
abbrev pub touches : Outcome → Bool
touches Inserted = true
touches Updated = true
touches Removed = true
touches _ = false

-- one change to the row's edge of a kind to a target
abbrev pub change_row : EdgeChange → ℕ × ℕ → List OpenBlock → List OpenBlock
change_row change place row =
    if touches (outcome_at change (edge_at row place)) then set_edge place (stamp_after change (edge_at row place)) row else row

-- whether a block has an edge that was last touched before a time, and how many a row has
abbrev pub has_old : ℕ → OpenBlock → Bool
has_old time b = has_before time b.shape.slots

abbrev pub old_in_row : ℕ → List OpenBlock → ℕ
old_in_row time row = sum_by (λ b. old_in time b.shape.slots) row

-- an expiry touches the blocks that have such an edge, and no others
abbrev pub expire_block : ℕ → OpenBlock → OpenBlock
expire_block time b = if has_old time b then touch (slots_since time) b else b

abbrev pub expire_row : ℕ → List OpenBlock → List OpenBlock
expire_row time row = map (expire_block time) row

-- at the batch's end: a touched block without edges is left out
abbrev pub is_kept : OpenBlock → Bool
is_kept b = not (b.touched && has_none b.shape)

abbrev pub row_end : List OpenBlock → List Shape
row_end row = shapes (filter is_kept row)

-- touched blocks with an edge at the end, each of which takes a fresh block
abbrev pub taken_in : List OpenBlock → ℕ
taken_in row = count_by (λ b. b.touched && not (has_none b.shape)) row

-- touched blocks that the row had before
abbrev pub dropped_in : List OpenBlock → ℕ
dropped_in row = count_by (λ b. b.touched && b.had) row
