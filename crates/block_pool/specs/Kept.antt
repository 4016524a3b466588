-- What a pool keeps of its numbers: the free ones as a list in the first places of a room of fixed size, and the retired
-- ones in stacks. Room that may be written has its memory.
use Rattle.std.specs.Prelude.{◌≡◌, ◌<◌, ◌≤◌, ℕ, zero, suc, ◌+◌, ◌-◌, ◌&&◌, Bool, if◌then◌else◌, List, [], ◌∷◌, length, take}
use Rattle.std.specs.Prelude.{count_by, sum_by, slice_index, slice_index_or, slice_set, true, false, Option, None}
use Rattle.block_pool.specs.{declared.numbers.{Numbers.Numbers, TheConstants.LATE}, Chains.{stack_of, below_top}, Paging.HasRoom}
use Rattle.block_reclamation.specs.declared.{copies.{PinCopy.PinCopy, TheConstants.SEATS}, status.BlockStatus.BlockStatus}
use Rattle.block_reclamation.specs.{declared.status.BlockStatus.TheVariants.Granted, Copies.reach_of, Status.{is_among, is_free, most_blocks}}
use Rattle.block_reclamation.specs.Status.{is_retired, is_reclaimable}

abbrev pub statuses : Numbers → List BlockStatus
statuses n = n.statuses.items

-- the status of a number, and one that no list has past the last number
abbrev pub status_of : List BlockStatus → ℕ → BlockStatus
status_of pool number = slice_index_or pool number Granted

-- how many numbers from i on have a status that passes p and pass q themselves
abbrev pub tally : (BlockStatus → Bool) → (ℕ → Bool) → ℕ → List BlockStatus → ℕ
tally p q i [] = 0
tally p q i (s ∷ pool) = (if p s && q i then 1 else 0) + tally p q (i + 1) pool

-- the list has each number whose status passes, once, and no other
abbrev pub Lists : (BlockStatus → Bool) → List BlockStatus → List ℕ → Type 0
Lists p pool numbers = (q : ℕ → Bool) → count_by q numbers ≡ tally p q 0 pool

-- the last k numbers of the first len of a list, the last one first
abbrev pub popped : List ℕ → ℕ → ℕ → List ℕ
popped room len zero = []
popped room len (suc k) = slice_index room (len - 1) ∷ popped room (len - 1) k

-- the copy needs each block of these numbers that is retired
abbrev pub AreNeeded : PinCopy → List BlockStatus → List ℕ → Type 0
AreNeeded copy pool numbers = (n : ℕ) → is_among n numbers ≡ true → is_reclaimable copy (status_of pool n) ≡ false

-- the copy has these settled pins
abbrev pub HasPins : PinCopy → List (Option ℕ) → Type 0
HasPins copy pins = (seat : ℕ) → seat < SEATS → slice_index_or copy.settled seat None ≡ slice_index_or pins seat None

-- The stacks of the retired numbers, which have each once, and no other: one for each seat, which any copy needs that has the seat's settled pin; one that any
-- copy needs that reaches no further than below `least`; and one of which nothing is known.
pub record IsSorted (pool : List BlockStatus) (pins : List (Option ℕ)) (least : ℕ) (lists : List (List ℕ)) : Type 0 where
  pub many : length lists ≡ LATE + 1
  pub listed : (q : ℕ → Bool) → sum_by (count_by q) lists ≡ tally is_retired q 0 pool
  pub held : (copy : PinCopy) (seat : ℕ) → seat < SEATS → slice_index_or copy.settled seat None ≡ slice_index_or pins seat None
      → AreNeeded copy pool (stack_of lists seat)
  pub late : (copy : PinCopy) → reach_of copy < least → AreNeeded copy pool (stack_of lists LATE)

-- the number may stand in that stack
pub record FitsWitness (pool : List BlockStatus) (pins : List (Option ℕ)) (least to number : ℕ) : Type 0 where
  pub held : (copy : PinCopy) → to < SEATS → slice_index_or copy.settled to None ≡ slice_index_or pins to None
      → is_reclaimable copy (status_of pool number) ≡ false
  pub late : (copy : PinCopy) → to ≡ LATE → reach_of copy < least → is_reclaimable copy (status_of pool number) ≡ false

abbrev pub top_of : List ℕ → ℕ
top_of numbers = slice_index numbers 0

-- the stacks with a number put on one, and with the top of one taken off
abbrev pub put_on : ℕ → ℕ → List (List ℕ) → List (List ℕ)
put_on stack number lists = slice_set lists stack (number ∷ stack_of lists stack)

abbrev pub taken_off : ℕ → List (List ℕ) → List (List ℕ)
taken_off stack lists = slice_set lists stack (below_top (stack_of lists stack))

-- the stacks with the top of one moved to another
abbrev pub moved : ℕ → ℕ → List (List ℕ) → List (List ℕ)
moved from to lists = put_on to (top_of (stack_of lists from)) (taken_off from lists)

-- each number that isn't free has memory
abbrev pub HasRoomFor : List BlockStatus → List ℕ → Type 0
HasRoomFor pool rooms = (k : ℕ) → k < length pool → is_free (status_of pool k) ≡ false → HasRoom rooms k

-- There is memory for what may be written before the next grant: what is kept of each number that isn't free, and the places of the
-- list past its first len.
pub record AreRoomy (pool : List BlockStatus) (len : ℕ) (statuses links places : List ℕ) : Type 0 where
  pub status : HasRoomFor pool statuses
  pub link : HasRoomFor pool links
  pub last : (place : ℕ) → len ≤ place → place < length pool → HasRoom places place

-- there is memory to grant the number that so many others are granted before
pub record IsReadyNumber (n : Numbers) (before : ℕ) : Type 0 where
  pub status : HasRoom n.statuses.rooms (slice_index n.free.items (n.free_len - 1 - before))
  pub link : HasRoom n.retired.rooms (slice_index n.free.items (n.free_len - 1 - before))
  pub last : HasRoom n.free.rooms (n.free_len - 1 - before)

-- the list has the free numbers, and the stacks the retired ones
pub record IsNumbers (n : Numbers) : Type 0 where
  pub few : length n.statuses.items ≤ most_blocks
  pub free_room : length n.free.items ≡ length n.statuses.items
  pub bound : n.retired.bound ≡ length n.statuses.items
  pub seats : length n.pins ≡ SEATS
  pub free_in : n.free_len ≤ length n.statuses.items
  pub free_are : Lists is_free (statuses n) (take n.free_len n.free.items)
  pub retired_in : n.retired_len ≡ count_by is_retired (statuses n)
  pub sorted : IsSorted (statuses n) n.pins n.least n.retired.lists
  pub roomy : AreRoomy (statuses n) n.free_len n.statuses.rooms n.retired.rooms n.free.rooms

-- each number is what it was, and each seat's stack stands under the pin that it stood under
pub record IsSame (old new : Numbers) : Type 0 where
  pub same : statuses new ≡ statuses old
  pub pins : new.pins ≡ old.pins

-- there is memory for the same
pub record HasRooms (old new : Numbers) : Type 0 where
  pub status : new.statuses.rooms ≡ old.statuses.rooms
  pub link : new.retired.rooms ≡ old.retired.rooms
  pub free : new.free.rooms ≡ old.free.rooms

-- each number is what it was, and there may be memory for more
pub record IsRoomier (old new : Numbers) : Type 0 where
  pub same : statuses new ≡ statuses old
  pub free : new.free.items ≡ old.free.items
  pub free_len : new.free_len ≡ old.free_len
  pub ready : (before : ℕ) → IsReadyNumber old before → IsReadyNumber new before
