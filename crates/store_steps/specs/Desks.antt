-- A desk: the blocks that it opened with, the last version, the journal, and what each block number is. A batch and a
-- collection change it.
use Rattle.std.specs.Prelude.{◌≡◌, ℕ, ◌+◌, ◌==◌, List, [], ◌∷◌, ◌++◌, length, map, count_by, slice_index_or, Bool, false, ◌&&◌}
use Rattle.std.specs.{Prelude.if◌then◌else◌, declared.option.Option.TheVariants.Some}
use Rattle.graph_version.specs.{Rows.{row_of, blocks_of, numbers_of}, Versions.{VersionView, IsVersion}}
use Rattle.block_reclamation.specs.Status.{is_among, is_free, is_retired, is_reclaimable, recycled}
use Rattle.block_reclamation.specs.{declared.copies.PinCopy.PinCopy, Copies.needs, declared.status.BlockStatus.BlockStatus}
use Rattle.block_reclamation.specs.declared.status.BlockStatus.TheVariants.{Granted, Used, Retired}
use Rattle.block_pool.specs.Pools.{is_used_at}
use Rattle.store_steps.specs.Journal.{Entry, Collected, Ledger, opened_ledger, replay}

-- `opened` are the numbers of version 0's blocks, which later versions drop one by one
pub record DeskView : Type 0 where
  pub opened : List ℕ
  pub last : VersionView
  pub journal : List Entry
  pub pool : List BlockStatus

-- the numbers of the last version's blocks
abbrev pub last_numbers : DeskView → List ℕ
last_numbers d = numbers_of (blocks_of d.last.rows)

abbrev pub ledger_of : DeskView → Ledger
ledger_of d = record { batches = d.last.batches; pool = d.pool }

-- from version 0's blocks the journal replays legally to the last version's batches and to what each number is, and the
-- numbers of the last version's blocks are those that may be retired
pub record IsDesk (d : DeskView) : Type 0 where
  pub version : IsVersion d.last
  pub replays : replay d.journal (opened_ledger (length d.pool) d.opened) ≡ Some (ledger_of d)
  pub listed : (n : ℕ) → is_used_at d.pool n ≡ is_among n (last_numbers d)

-- the birth of a block of the last version
abbrev pub birth_of : BlockStatus → ℕ
birth_of (Used birth) = birth
birth_of (Retired birth retirement) = birth
birth_of _ = 0

abbrev pub birth_at : List BlockStatus → ℕ → ℕ
birth_at pool number = birth_of (slice_index_or pool number Granted)

-- the births of the last version's blocks, by source
abbrev pub births_in : DeskView → ℕ → List ℕ
births_in d source = map (λ b. birth_at d.pool b.number) (row_of d.last.rows source)

-- whether a block is retired, with a birth and a retirement that pass the test
abbrev pub is_retired_by : (ℕ → ℕ → Bool) → BlockStatus → Bool
is_retired_by q (Retired birth retirement) = q birth retirement
is_retired_by q _ = false

-- Collections

-- the entries of a collection: one where it recycles a block
abbrev pub collections : PinCopy → ℕ → List Entry
collections copy count = if count == 0 then [] else Collected copy count ∷ []

-- the desk has collected by this copy: it has recycled what is retired and not needed by the copy, and the journal has an
-- entry where that is anything
pub record IsCollected (old : DeskView) (copy : PinCopy) (new : DeskView) : Type 0 where
  pub opened : new.opened ≡ old.opened
  pub last : new.last ≡ old.last
  pub pool : new.pool ≡ map (recycled copy) old.pool
  pub journal : new.journal ≡ old.journal ++ collections copy (count_by (is_reclaimable copy) old.pool)

-- what the collection recycles was retired and is free; retired is what the copy needs
pub record CollectedCounts (old : DeskView) (copy : PinCopy) (new : DeskView) : Type 0 where
  pub free : count_by is_free new.pool ≡ count_by is_free old.pool + count_by (is_reclaimable copy) old.pool
  pub retired : count_by is_retired new.pool + count_by (is_reclaimable copy) old.pool ≡ count_by is_retired old.pool
  pub retired_by : (q : ℕ → ℕ → Bool) → count_by (is_retired_by q) new.pool
      ≡ count_by (is_retired_by (λ birth retirement. needs copy birth retirement && q birth retirement)) old.pool
  pub blocks : length new.pool ≡ length old.pool
