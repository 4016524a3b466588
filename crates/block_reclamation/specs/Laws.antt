-- The laws of status, floor and need.
use Rattle.std.specs.Prelude.{◌≡◌, ℕ, ◌<◌, ◌≤◌, ◌+◌, true, false, List, [], ◌∷◌, length, count_by, Option}
use Rattle.block_reclamation.specs.{declared.{status.BlockStatus.BlockStatus, copies.{Pin.Pin, PinCopy.PinCopy}}, Copies.copy_of}
use Rattle.block_reclamation.specs.{Copies.{floor_of, needs}, Status.{is_free, is_granted, is_used, is_retired, is_in_use}}
use Rattle.block_reclamation.specs.Board.{IsLeast}

-- a block is exactly one of free, granted, used and retired
abbrev pub IsOneOfFour : BlockStatus → Type 0
IsOneOfFour status =
    count_by (λ is_so. is_so) (is_free status ∷ is_granted status ∷ is_used status ∷ is_retired status ∷ []) ≡ 1

-- so these four part the blocks, and free, in use and retired part them
pub record ArePartition (blocks : List BlockStatus) : Type 0 where
  pub by_status :
      count_by is_free blocks + count_by is_granted blocks + count_by is_used blocks + count_by is_retired blocks ≡ length blocks
  pub by_use : count_by is_free blocks + count_by is_in_use blocks + count_by is_retired blocks ≡ length blocks

-- the floor is at most the last number and each pin, and it is one of them
abbrev pub FloorIsLeast : Type 0
FloorIsLeast = (last : ℕ) (pins : List (Option Pin)) → IsLeast last pins (floor_of (copy_of last pins))

-- nothing that was retired at latest with the floor is needed
abbrev pub FloorSpares : Type 0
FloorSpares = (copy : PinCopy) (birth retirement : ℕ) → retirement ≤ floor_of copy → needs copy birth retirement ≡ false

-- what was listed earlier and longer than a needed block is needed
abbrev pub NeedIsMonotone : Type 0
NeedIsMonotone =
    (copy : PinCopy) (birth retirement earlier later : ℕ) → earlier ≤ birth → retirement ≤ later
    → needs copy birth retirement ≡ true → needs copy earlier later ≡ true
