-- What the calls about a desk tell.
use Rattle.std.specs.Prelude.{◌≡◌, ◌≢◌, ◌⊎◌, ◌+◌, ℕ, List, [], length, count_by, Option, Some, None, IsSomeAnd}
use Rattle.graph_types.specs.{Step.outcomes, declared.batches.NamedOp.NamedOp}
use Rattle.graph_version.specs.{Versions.{content}, Kept.edge_total, Rebased.IsRebased}
use Rattle.block_reclamation.specs.Status.{is_free, is_retired, is_in_use, is_reclaimable}
use Rattle.store_steps.specs.{Desks.DeskView, Opening.{IsVersionZero, opened_desk}, Acceptances.Accepts}
use Rattle.desk.specs.Refusals.{Refuses, IsWithin}
use Rattle.owned_desk.specs.declared.{errors.HoldError.TheVariants.NoSeat, owned.Hold.Hold}
use Rattle.graph_types.specs.declared.refusals.ApplyError.{ApplyError}
use Rattle.graph_types.specs.declared.refusals.ApplyError.TheVariants as refused
use Rattle.owned_desk.specs.Owned.{OwnedView, opened_owned, HoldsOnce, RefusesHold, IsReleased, RefusesRelease, copied}
use Rattle.desk_columns.specs.Feeding.{Collects}
use Rattle.desk_counts.specs.{Counted.{with_outcomes, none_counted}, declared.counts.Counts.Counts}
use Rattle.store_handles.specs.declared.held.Held.{Held}
use Rattle.store_handles.specs.declared.held.Held.TheVariants as held
use Rattle.misteluk_c.specs.declared.desks.{DeskStat.DeskStat, HoldNumbers.HoldNumbers}
use Rattle.misteluk_c.specs.Held.{held_version_of, batch_in}

-- the desk that a handle holds, and the identity that this desk's holds have, also while a batch is ready at it
abbrev pub held_desk : Option Held → Option OwnedView
held_desk None = None
held_desk (Some (held.Desk desk identity)) = Some desk
held_desk (Some _) = None

abbrev pub identity_in : Option Held → ℕ
identity_in None = 0
identity_in (Some (held.Desk desk identity)) = identity
identity_in (Some (held.Ready ready identity)) = identity
identity_in (Some _) = 0

abbrev pub apply_code : ApplyError → ℕ
apply_code refused.BatchLimit = 11
apply_code refused.NamesFull = 12
apply_code refused.KindsFull = 13
apply_code (refused.PoolEmpty needed free) = 14
apply_code refused.OutOfMemory = 1

-- a batch is within the limits and accepted, and its handle is empty then; or refused, and all is as it was
abbrev pub TellsApplied : OwnedView → List NamedOp → OwnedView → Option Held → ℕ → Counts → Type 0
TellsApplied old ops new batch code counts =
    ((code ≡ 0) × (batch_in batch ≡ Some []) × IsWithin old.desk.last (count_by is_free old.desk.pool) ops
    × Accepts old.desk ops new.desk × (new ≡ record old { desk = new.desk })
    × (counts ≡ with_outcomes (none_counted 0) (length new.desk.last.batches) (outcomes ops (content old.desk.last))))
    ⊎ ((error : ApplyError) × (code ≡ apply_code error) × Refuses old.desk.last (count_by is_free old.desk.pool) ops error
    × (new ≡ old) × (batch_in batch ≡ Some ops))

abbrev pub TellsApply : OwnedView → List NamedOp → Option Held → Option Held → ℕ → Counts → Type 0
TellsApply old ops desk batch code counts = IsSomeAnd (held_desk desk) (λ new. TellsApplied old ops new batch code counts)

abbrev pub TellsCollect : OwnedView → Option Held → ℕ → ℕ → Type 0
TellsCollect old desk code freed =
    (code ≡ 0) × (freed ≡ count_by (is_reclaimable (copied old.desk old.board)) old.desk.pool)
    × IsSomeAnd (held_desk desk) (Collects old)

abbrev pub stat_of : DeskView → DeskStat
stat_of d =
    record {
      version = length d.last.batches;
      vertices = length (content d.last).names;
      kinds = length (content d.last).kinds;
      edges = edge_total d.last;
      blocks_free = count_by is_free d.pool;
      blocks_retired = count_by is_retired d.pool;
      blocks_used = count_by is_in_use d.pool;
    }

-- the last version is held in a handle that held nothing, or not: all is as it was then
abbrev pub TellsHeld : ℕ → OwnedView → OwnedView → Option Held → Option Held → ℕ → HoldNumbers → Type 0
TellsHeld identity old new (Some before) version code hold = (code ≡ 3) × (new ≡ old) × (version ≡ Some before)
TellsHeld identity old new None version code hold =
    ((code ≡ 0) × (held_version_of version ≡ Some old.desk.last)
    × (hold ≡ record { desk = identity; opening = old.opening; number = length old.desk.last.batches })
    × HoldsOnce old (length old.desk.last.batches) new)
    ⊎ ((code ≡ 15) × RefusesHold old (length old.desk.last.batches) NoSeat × (new ≡ old) × (version ≡ None))
    ⊎ ((code ≡ 1) × (new ≡ old) × (version ≡ None))

abbrev pub TellsHold : ℕ → OwnedView → Option Held → Option Held → Option Held → ℕ → HoldNumbers → Type 0
TellsHold identity old desk before version code hold =
    IsSomeAnd (held_desk desk) (λ new. TellsHeld identity old new before version code hold)

abbrev pub hold_of : HoldNumbers → Hold
hold_of hold = record { opening = hold.opening; number = hold.number }

-- a hold of the desk with this identity is taken back, or it isn't held; one that another desk gave is refused
abbrev pub TellsRelease : ℕ → OwnedView → HoldNumbers → Option Held → ℕ → Type 0
TellsRelease identity old hold desk code =
    IsSomeAnd (held_desk desk) (λ new. ((code ≡ 0) × (hold.desk ≡ identity) × IsReleased old (hold_of hold) new)
    ⊎ ((code ≡ 15) × (hold.desk ≡ identity) × RefusesRelease old (hold_of hold) × (new ≡ old))
    ⊎ ((code ≡ 15) × (hold.desk ≢ identity) × (new ≡ old)))

abbrev pub TellsRebase : OwnedView → Option Held → ℕ → Type 0
TellsRebase old desk code =
    IsSomeAnd (held_desk desk) (λ new. ((code ≡ 0) × IsRebased old.desk.last new.desk.last
    × IsVersionZero (length old.desk.pool) new.desk.last
    × (new ≡ opened_owned (opened_desk (length old.desk.pool) new.desk.last) (old.opening + 1)))
    ⊎ ((code ≡ 1) × (new ≡ old)))
