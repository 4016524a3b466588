-- What a desk opens with, and why none opens.
use Rattle.std.specs.{Prelude.◌≡◌, Prelude.ℕ, Prelude.◌<◌, Arc.arc_value}
use Rattle.graph_version.specs.{Rows.blocks_of, Rows.numbers_of, declared.versions.Version.Version}
use Rattle.store_steps.specs.Opening.{IsVersionZero, opened_desk}
use Rattle.block_reclamation.specs.{declared.copies.PinCopy.PinCopy, Copies.no_copy}
use Rattle.desk.specs.declared.{zero.Zero.Zero, errors.OpenError.OpenError}
use Rattle.desk.specs.declared.errors.OpenError.TheVariants.{PoolEmpty, OutOfMemory}

-- a desk of so many blocks may open with this version, whose blocks are those of the pool that aren't free, each born with it
pub record OpensWith (blocks : ℕ) (zero : Zero) : Type 0 where
  pub version : IsVersionZero blocks (arc_value {X = Version} zero.version)
  pub numbers : zero.numbers ≡ numbers_of (blocks_of (arc_value {X = Version} zero.version).rows)
  pub pool : zero.pool ≡ (opened_desk blocks (arc_value {X = Version} zero.version)).pool

-- the copy of a last number, where nobody has a pin
abbrev pub without_pins : ℕ → PinCopy
without_pins last = record no_copy { last = last }

-- why no desk of so many blocks opens with a version that has `needed`; memory may run out at any place
abbrev pub RefusesOpening : ℕ → ℕ → OpenError → Type 0
RefusesOpening needed blocks (PoolEmpty told free) = (told ≡ needed) × (free ≡ blocks) × (blocks < needed)
RefusesOpening needed blocks OutOfMemory = Unit {0}
