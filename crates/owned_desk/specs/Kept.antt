-- The versions that are kept of seats, and what later batches touched.
use Rattle.std.specs.Prelude.{◌≡◌, ℕ, ◌<◌, ◌≤◌, List, ◌++◌, length, Option, Some, None, IsSome, slice_get, slice_index_or, Contains}
use Rattle.block_reclamation.specs.{declared.{copies.{Pin.Pin, TheConstants.SEATS}, status.BlockStatus.BlockStatus}, Copies.pin_at}
use Rattle.edge_block.specs.Slots.{BlockView}
use Rattle.epoch_core.specs.Sound.{IsKeptAt}
use Rattle.graph_types.specs.declared.batches.NamedOp.{NamedOp}
use Rattle.graph_version.specs.{Rows.{row_of, blocks_of}, Versions.VersionView}
use Rattle.store_steps.specs.Desks.{DeskView}
use Rattle.owned_desk.specs.Touched.{number_at}

-- each seat's version, if it has one, and by source the number of the last batch that touched it
pub record KeptView : Type 0 where
  pub versions : List (Option VersionView)
  pub touched : List ℕ

-- the version of a seat
abbrev pub seat_version : List (Option VersionView) → ℕ → Option VersionView
seat_version versions seat = slice_index_or versions seat None

-- no seat has a version, and some seat has one
abbrev pub IsWithoutVersions : List (Option VersionView) → Type 0
IsWithoutVersions versions = (seat : ℕ) → seat < SEATS → seat_version versions seat ≡ None

abbrev pub HasVersion : List (Option VersionView) → Type 0
HasVersion versions = (seat : ℕ) × IsSome (seat_version versions seat)

-- a version that later batches made the last one of: it has the row of each source that none of them touched
pub record IsFormerVersion (touched : List ℕ) (v last : VersionView) : Type 0 where
  pub opening : last.opening ≡ v.opening
  pub later : List (List NamedOp)
  pub batches : last.batches ≡ v.batches ++ later
  pub rows : (source : ℕ) → number_at touched source ≤ length v.batches → row_of v.rows source ≡ row_of last.rows source

-- each of a version's blocks is the one of its number
abbrev pub HasBlocksOf : (ℕ → BlockView) → VersionView → Type 0
HasBlocksOf block_of v = (b : BlockView) → Contains (blocks_of v.rows) b → b ≡ block_of b.number

-- each of them is kept for the version's holders
abbrev pub HasKeptBlocks : List BlockStatus → VersionView → Type 0
HasKeptBlocks pool v = (b : BlockView) → Contains (blocks_of v.rows) b → IsKeptAt (length v.batches) (slice_get pool b.number)

-- the version of a pin: of the pin's number
pub record IsVersionOf (touched : List ℕ) (block_of : ℕ → BlockView) (d : DeskView) (pin : Pin) (v : VersionView) : Type 0 where
  pub number : length v.batches ≡ pin.number
  pub former : IsFormerVersion touched v d.last
  pub blocks : HasBlocksOf block_of v
  pub kept : HasKeptBlocks d.pool v

-- a seat with a pin has the pin's version, and one without a pin has none
abbrev pub IsSeatVersion : List ℕ → (ℕ → BlockView) → DeskView → Option Pin → Option VersionView → Type 0
IsSeatVersion touched block_of d None None = Unit {0}
IsSeatVersion touched block_of d None (Some v) = ⊥
IsSeatVersion touched block_of d (Some pin) None = ⊥
IsSeatVersion touched block_of d (Some pin) (Some v) = IsVersionOf touched block_of d pin v

-- so it is of each seat, and a number stands for one block in all these versions and the last
pub record KeepsVersions (d : DeskView) (pins : List (Option Pin)) (kept : KeptView) : Type 0 where
  pub seats : length kept.versions ≡ SEATS
  pub block_of : ℕ → BlockView
  pub last : HasBlocksOf block_of d.last
  pub each : (seat : ℕ) → seat < SEATS
      → IsSeatVersion kept.touched block_of d (pin_at pins seat) (seat_version kept.versions seat)
