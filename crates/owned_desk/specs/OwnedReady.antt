-- A batch that is ready at a desk with one owner.
use Rattle.std.specs.Prelude.{ℕ, List}
use Rattle.graph_types.specs.declared.batches.NamedOp.{NamedOp}
use Rattle.store_steps.specs.{Desks.DeskView, Acceptances.Accepts}
use Rattle.owned_desk.specs.{Kept.KeepsVersions, Owned.{OwnedView, IsOwned}}

-- the desk of before with what is held of it, the batch's operations, and the desk that has accepted them
pub record OwnedReadyView : Type 0 where
  pub old : OwnedView
  pub ops : List NamedOp
  pub new : DeskView

-- what is held is counted, before and after, and the desk after has accepted the batch
pub record IsOwnedReady (r : OwnedReadyView) : Type 0 where
  pub before : IsOwned r.old
  pub after : IsOwned (record r.old { desk = r.new })
  pub accepted : Accepts r.old.desk r.ops r.new

-- and each seat's version is kept, before and after, with the sources that later batches touched, this one too
pub record KeepsReady (r : OwnedReadyView) (touched : List ℕ) : Type 0 where
  pub ready : IsOwnedReady r
  pub before : KeepsVersions r.old.desk r.old.board.pins (record { versions = r.old.versions; touched = touched })
  pub after : KeepsVersions r.new r.old.board.pins (record { versions = r.old.versions; touched = touched })
