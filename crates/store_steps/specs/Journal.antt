-- The journal of a store: accepted batches and collections, and what replaying it leaves.
use Rattle.std.specs.Prelude.{ℕ, ◌+◌, ◌==◌, nat_le, nat_lt, List, [], ◌∷◌, ◌++◌, map, length, count_by, replicate, Bool, ◌&&◌}
use Rattle.std.specs.{Prelude.if◌then◌else◌, List.list_all, Option.option_and_then}
use Rattle.std.specs.declared.option.Option.{Option, TheVariants.None, TheVariants.Some}
use Rattle.graph_types.specs.declared.batches.NamedOp.{NamedOp}
use Rattle.epoch_core.specs.Blocks.{all_differ}
use Rattle.block_reclamation.specs.{declared.copies.PinCopy.PinCopy, Status.is_reclaimable, Status.recycled}
use Rattle.block_reclamation.specs.declared.status.BlockStatus.{BlockStatus, TheVariants.Free, TheVariants.Used}
use Rattle.block_pool.specs.Pools.{is_free_at, retired, marked, changed_numbers, is_used_at}

-- an accepted batch with the numbers of the blocks that it took and dropped, or a collection with its copy of the pins and
-- how many blocks it recycled
pub data Entry : Type 0 where
  Applied : (batch : List NamedOp) (taken dropped : List ℕ) → Entry
  Collected : (copy : PinCopy) (recycled : ℕ) → Entry

-- what a journal leaves: the batches in order, and what each block number is
pub record Ledger : Type 0 where
  pub batches : List (List NamedOp)
  pub pool : List BlockStatus

-- no batches; the blocks of these numbers are version 0's, and all others are free
abbrev pub opened_ledger : ℕ → List ℕ → Ledger
opened_ledger blocks opened = record { batches = []; pool = marked opened (Used 0) (replicate blocks Free) }

-- a batch's entry is legal where all that it takes are free and all that it drops are the last version's, none twice;
-- a collection's where its copy's last number is at most the number of batches and it recycles some, as many as are retired
-- and not needed by the copy
abbrev pub is_legal : Ledger → Entry → Bool
is_legal l (Applied batch taken dropped) =
    list_all (is_free_at l.pool) taken && all_differ taken && list_all (is_used_at l.pool) dropped && all_differ dropped
is_legal l (Collected copy count) = nat_le copy.last (length l.batches) && nat_lt 0 count &&
    (count == count_by (is_reclaimable copy) l.pool)

-- the pool after a batch whose version has this number, which is the birth of the blocks taken
abbrev pub exchanged : ℕ → List ℕ → List ℕ → List BlockStatus → List BlockStatus
exchanged number taken dropped pool = changed_numbers (retired number) dropped (marked taken (Used number) pool)

abbrev pub after_entry : Ledger → Entry → Ledger
after_entry l (Applied batch taken dropped) =
    record { batches = l.batches ++ batch ∷ []; pool = exchanged (length l.batches + 1) taken dropped l.pool }
after_entry l (Collected copy count) = record { batches = l.batches; pool = map (recycled copy) l.pool }

abbrev pub entered : Ledger → Entry → Option Ledger
entered l e = if is_legal l e then Some (after_entry l e) else None

-- what the entries leave, one after another, and none where one of them is not legal
abbrev pub replay : List Entry → Ledger → Option Ledger
replay [] l = Some l
replay (e ∷ es) l = option_and_then (replay es) (entered l e)
