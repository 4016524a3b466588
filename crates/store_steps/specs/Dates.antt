-- The numbers of versions that a desk's blocks carry.
use Rattle.std.specs.{Prelude.{◌≡◌, ℕ, ◌<◌, ◌≤◌, Bool, false, List, slice_get}, declared.option.Option.{Option, TheVariants.Some}}
use Rattle.block_reclamation.specs.{Status.is_among, declared.status.BlockStatus.BlockStatus}
use Rattle.block_reclamation.specs.declared.status.BlockStatus.TheVariants.{Granted, Used, Retired}

-- beside a last version of this number: no block is left granted; a block was born with one of the versions, and with version 0
-- only where the store opened with it; and a retirement comes after the birth and is never above that number
abbrev pub IsDatedBlock : Bool → ℕ → Option BlockStatus → Type 0
IsDatedBlock opened last (Some Granted) = ⊥
IsDatedBlock opened last (Some (Used birth)) = (opened ≡ false → 0 < birth) × (birth ≤ last)
IsDatedBlock opened last (Some (Retired birth retirement)) = (opened ≡ false → 0 < birth) × (birth < retirement) × (retirement ≤ last)
IsDatedBlock opened last _ = Unit {0}

-- the blocks of a store that opened with blocks of these numbers
abbrev pub AreDated : List ℕ → ℕ → List BlockStatus → Type 0
AreDated opened last pool = (number : ℕ) → IsDatedBlock (is_among number opened) last (slice_get pool number)
