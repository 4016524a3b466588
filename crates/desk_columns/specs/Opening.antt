-- A desk that opens with what columns hold.
use Rattle.std.specs.Prelude.{◌≡◌, ◌+◌, ◌<◌, ℕ, List, length, Result, Ok, Err}
use Rattle.graph_types.specs.declared.batches.NamedOp.{NamedOp}
use Rattle.graph_version.specs.Versions.{content}
use Rattle.store_steps.specs.Opening.{IsVersionZero, opened_desk}
use Rattle.owned_desk.specs.Owned.{OwnedView, opened_owned}
use Rattle.batch_columns.specs.Operations.{OperationTable}
use Rattle.opening_columns.specs.{Numbers.AreTaken, Openings.{IsOpenedWith, RefusesColumns}}
use Rattle.desk_columns.specs.declared.opening.OpenDeskError.{OpenDeskError, TheVariants.{NotEmpty, Refused}}

-- the desk opens anew, as a rebase does, with what the operations in columns leave of the empty graph under its limits
pub record IsOpenedBy (t : OperationTable) (old new : OwnedView) : Type 0 where
  pub ops : List NamedOp
  pub taken : AreTaken (content old.desk.last).limits t (length t.sorts) ops
  pub opened : IsOpenedWith ops (content old.desk.last).limits new.desk.last
  pub zero : IsVersionZero (length old.desk.pool) new.desk.last
  pub new_is : new ≡ opened_owned (opened_desk (length old.desk.pool) new.desk.last) (old.opening + 1)

-- why it doesn't, and the place that is told: it has a vertex, or the columns aren't an opening under its limits and in its blocks
abbrev pub RefusesDesk : OperationTable → OwnedView → ℕ → OpenDeskError → Type 0
RefusesDesk t o place NotEmpty = (place ≡ 0) × (0 < length (content o.desk.last).names)
RefusesDesk t o place (Refused error) =
    (length (content o.desk.last).names ≡ 0) × RefusesColumns (content o.desk.last).limits (length o.desk.pool) t place error

-- a desk opens with columns, or is as it was
abbrev pub OpensColumns : OperationTable → OwnedView → Result (Unit {0}) OpenDeskError → OwnedView → ℕ → Type 0
OpensColumns t old (Ok _) new place = (place ≡ 0) × IsOpenedBy t old new
OpensColumns t old (Err error) new place = (new ≡ old) × RefusesDesk t old place error
