-- Why no store opens.
use Rattle.std.specs.{Prelude.◌≡◌, Prelude.ℕ, Prelude.◌<◌}
use Rattle.stream_store.specs.declared.opening.OpenError.{OpenError, TheVariants.{PoolEmpty, NoReader, OutOfMemory}}
use Rattle.desk.specs.declared.errors.OpenError as errors
use Rattle.desk.specs.declared.errors.OpenError.TheVariants as kept

-- a desk's error, as the store tells it
abbrev pub store_error : errors.OpenError → OpenError
store_error (kept.PoolEmpty needed free) = PoolEmpty needed free
store_error kept.OutOfMemory = OutOfMemory

-- why no store of so many blocks opens with a version that has `needed`; at any place a reader's place may be missing, or memory
-- may run out
abbrev pub RefusesStore : ℕ → ℕ → OpenError → Type 0
RefusesStore needed blocks (PoolEmpty told free) = (told ≡ needed) × (free ≡ blocks) × (blocks < needed)
RefusesStore needed blocks NoReader = Unit {0}
RefusesStore needed blocks OutOfMemory = Unit {0}
