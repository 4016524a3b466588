-- What a block is: free, granted, used or retired. Birth and retirement are numbers of versions: the one that first listed the
-- block, and the one that left it out.
use Rattle.std.specs.{Prelude.{ℕ, ◌<◌, ◌≤◌, ◌-◌, ◌^◌, Bool, true, false, not, ◌==◌, List, if◌then◌else◌}, List.list_any}
use Rattle.std.specs.declared.option.Option.{Option, TheVariants.{None, Some}}
use Rattle.block_reclamation.specs.declared.status.BlockStatus.{BlockStatus, TheVariants.{Free, Granted, Used, Retired}}
use Rattle.block_reclamation.specs.{declared.copies.PinCopy.PinCopy, Copies.needs}

-- a store has at most so many blocks, so that 2 ^ 20 more have 32 bits: a batch may ask for one for each of its operations, and
-- for as many as are used
abbrev pub most_blocks : ℕ
most_blocks = 2 ^ 32 - 1048577

abbrev pub is_free : BlockStatus → Bool
is_free Free = true
is_free _ = false

abbrev pub is_granted : BlockStatus → Bool
is_granted Granted = true
is_granted _ = false

abbrev pub is_used : BlockStatus → Bool
is_used (Used birth) = true
is_used _ = false

abbrev pub is_retired : BlockStatus → Bool
is_retired (Retired birth retirement) = true
is_retired _ = false

-- granted, or in the last version
abbrev pub is_in_use : BlockStatus → Bool
is_in_use Granted = true
is_in_use (Used birth) = true
is_in_use _ = false

-- whether there is a block of this number, of which this is so
abbrev pub is_at : (BlockStatus → Bool) → Option BlockStatus → Bool
is_at test None = false
is_at test (Some status) = test status

-- whether a list of block numbers has this one
abbrev pub is_among : ℕ → List ℕ → Bool
is_among b blocks = list_any (λ c. c == b) blocks

-- Dates

-- a block was born at latest with this version, and retired after its birth and at latest with this version
abbrev pub IsDated : ℕ → BlockStatus → Type 0
IsDated last (Used birth) = birth ≤ last
IsDated last (Retired birth retirement) = (birth < retirement) × (retirement ≤ last)
IsDated last _ = Unit {0}

-- a block is kept for the holders of version n: it was born at latest with it, and not retired or only after it
abbrev pub IsKept : ℕ → BlockStatus → Type 0
IsKept n (Used birth) = birth ≤ n
IsKept n (Retired birth retirement) = (birth ≤ n) × (n < retirement)
IsKept n _ = ⊥

-- Reclamation

-- a retired block that the copy doesn't need
abbrev pub is_reclaimable : PinCopy → BlockStatus → Bool
is_reclaimable copy (Retired birth retirement) = not (needs copy birth retirement)
is_reclaimable copy _ = false

-- what a collection by this copy makes of a block
abbrev pub recycled : PinCopy → BlockStatus → BlockStatus
recycled copy status = if is_reclaimable copy status then Free else status
