-- What a batch's receipt says.
use Rattle.std.specs.Prelude.{◌≡◌, ℕ, List, length}
use Rattle.graph_types.specs.{Step.outcomes, declared.batches.{NamedOp.NamedOp, Outcome.Outcome}}
use Rattle.graph_version.specs.Versions.{content}
use Rattle.version_shelf.specs.Shelves.{ToldView}
use Rattle.stream_store.specs.Kept.{DeskState}

-- a receipt names the version that the batch left, its number, and the operation rule's outcomes
pub record IsReceipt (old : DeskState) (ops : List NamedOp) (new : DeskState) (number : ℕ) (results : List Outcome)
    (told : ToldView) : Type 0 where
  pub told_is : told ≡ record { book = old.book; version = new.desk.last }
  pub number_is : number ≡ length new.desk.last.batches
  pub outcomes_are : results ≡ outcomes ops (content old.desk.last)
