-- Where a row may have room, and all that is known of a row before a search.
use Rattle.std.specs.Prelude.{◌≡◌, ℕ, ◌<◌, List, length, get_or, false}
use Rattle.edge_block.specs.Rows.{has_room, old_in_row}
use Rattle.batch_shards.specs.{declared.{room.Room.Room, rows.Hints.Hints, row_blocks.RowBlock.RowBlock}, RowBlocks.open_of}
use Rattle.batch_shards.specs.{RowBlocks.opens, Notes.IsNoted}

-- no block of the kind before the place has room
pub record IsFull (kind place : ℕ) (row : List RowBlock) : Type 0 where
  pub full : (i : ℕ) (d : RowBlock) → i < place → i < length row → has_room kind (open_of (get_or row i d)).shape ≡ false

abbrev pub IsRoom : Room → List RowBlock → Type 0
IsRoom room row = IsFull room.kind.0 room.place row

-- what is known of a row is so
pub record AreHints (hints : Hints) (row : List RowBlock) : Type 0 where
  pub noted : IsNoted hints.notes row
  pub room : IsRoom hints.room row
  pub young : old_in_row hints.since (opens row) ≡ 0
