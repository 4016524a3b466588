-- What an accepted batch leaves of a desk, and the blocks that a collection has passed.
use Rattle.std.proofs.Common.{◌≡◌, true, not, List, [], ◌∷◌, ◌++◌, length, refl, ap}
use Rattle.block_reclamation.specs.{Copies.needs, Status.{is_retired, is_reclaimable}, declared.copies.PinCopy.PinCopy}
use Rattle.block_reclamation.specs.declared.status.BlockStatus.{BlockStatus, TheVariants.{Free, Granted, Used, Retired}}
use Rattle.graph_types.specs.declared.batches.NamedOp.{NamedOp}
use Rattle.store_steps.specs.{Acceptances.Accepts, Desks.{is_retired_by, DeskView}}

pub retired_any : (s : BlockStatus) → is_retired s ≡ is_retired_by (λ birth retirement. true) s
retired_any Free = refl
retired_any Granted = refl
retired_any (Used birth) = refl
retired_any (Retired birth retirement) = refl

pub reclaimable_any : (copy : PinCopy) (s : BlockStatus)
    → is_reclaimable copy s ≡ is_retired_by (λ birth retirement. not (needs copy birth retirement)) s
reclaimable_any copy Free = refl
reclaimable_any copy Granted = refl
reclaimable_any copy (Used birth) = refl
reclaimable_any copy (Retired birth retirement) = refl

pub batches_after : (d e : DeskView) (ops : List NamedOp) → Accepts d ops e → e.last.batches ≡ d.last.batches ++ ops ∷ []
batches_after d e ops accepts = ap (λ l. l.batches) accepts.accepted.ledger

pub opening_after : (d e : DeskView) (ops : List NamedOp) → Accepts d ops e → e.last.opening ≡ d.last.opening
opening_after d e ops accepts = accepts.accepted.opening

pub blocks_after : (d e : DeskView) (ops : List NamedOp) → Accepts d ops e → length e.pool ≡ length d.pool
blocks_after d e ops accepts = accepts.accepted.counts.blocks
