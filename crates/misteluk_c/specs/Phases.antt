-- What the calls about a batch that is ready at a desk tell.
use Rattle.std.specs.Prelude.{◌≡◌, ◌⊎◌, ℕ, List, length, count_by, Option, Some, None, IsSomeAnd}
use Rattle.graph_types.specs.{Step.outcomes, declared.batches.NamedOp.NamedOp, declared.refusals.ApplyError.ApplyError}
use Rattle.graph_version.specs.Versions.{content}
use Rattle.block_reclamation.specs.Status.{is_free}
use Rattle.store_steps.specs.Acceptances.{Accepts}
use Rattle.desk.specs.Refusals.{Refuses, IsWithin}
use Rattle.owned_desk.specs.{Owned.OwnedView, OwnedReady.OwnedReadyView}
use Rattle.desk_counts.specs.{Counted.{with_outcomes, none_counted}, declared.counts.Counts.Counts}
use Rattle.store_handles.specs.declared.held.Held.{Held}
use Rattle.store_handles.specs.declared.held.Held.TheVariants as held
use Rattle.misteluk_c.specs.{Held.batch_in, Desks.{held_desk, apply_code}}

-- the desk that a handle holds together with a batch that is ready at it
abbrev pub held_ready : Option Held → Option OwnedReadyView
held_ready None = None
held_ready (Some (held.Ready ready identity)) = Some ready
held_ready (Some _) = None

-- a batch within the limits is ready at the desk; or it is refused, and the desk is as it was
abbrev pub TellsBegun : OwnedView → List NamedOp → Option Held → ℕ → Type 0
TellsBegun old ops desk code =
    ((code ≡ 0) × IsWithin old.desk.last (count_by is_free old.desk.pool) ops
    × IsSomeAnd (held_ready desk) (λ r. (r.old ≡ old) × (r.ops ≡ ops) × Accepts old.desk ops r.new))
    ⊎ ((error : ApplyError) × (code ≡ apply_code error) × Refuses old.desk.last (count_by is_free old.desk.pool) ops error
    × (held_desk desk ≡ Some old))

-- so it is, and the batch stays in its handle
abbrev pub TellsReady : OwnedView → List NamedOp → Option Held → Option Held → ℕ → Type 0
TellsReady old ops desk batch code = (batch_in batch ≡ Some ops) × TellsBegun old ops desk code

-- the batch is accepted: its version is the last, and what is held stays held
abbrev pub TellsFinish : OwnedReadyView → Option Held → ℕ → Counts → Type 0
TellsFinish r desk code counts =
    (code ≡ 0) × (held_desk desk ≡ Some (record r.old { desk = r.new }))
    × (counts ≡ with_outcomes (none_counted 0) (length r.new.last.batches) (outcomes r.ops (content r.old.desk.last)))

-- the batch is given up: the desk is the one of before
abbrev pub TellsCancel : OwnedReadyView → Option Held → ℕ → Type 0
TellsCancel r desk code = (code ≡ 0) × (held_desk desk ≡ Some r.old)
