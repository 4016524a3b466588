-- A store behind locks: what its calls answer, where what the locks held is not known.
use Rattle.std.specs.Prelude.{◌≡◌, ℕ, ◌<◌, List, [], ◌∷◌, ◌++◌, length}
use Rattle.logbook.specs.Pages.{Book}
use Rattle.graph_types.specs.Graph.{Graph}
use Rattle.graph_types.specs.{Step.outcomes, Step.left_by, declared.batches.NamedOp.NamedOp, declared.batches.Outcome.Outcome}
use Rattle.graph_version.specs.Versions.{VersionView, IsVersion}
use Rattle.graph_types.specs.Refusals.{MeetsNeitherLimit}
use Rattle.version_shelf.specs.Shelves.{ToldView}
pub use Rattle.desk.specs.Copies.{copied}
use Rattle.graph_types.specs.declared.refusals.ApplyError.{ApplyError}
use Rattle.desk.specs.Refusals.{Refuses}
use Rattle.stream_store.specs.Seats.{SeatView}

-- a version of the shelf of this book, which began with this graph
pub record IsOfOpening (book : Book) (opening : Graph) (x : ToldView) : Type 0 where
  pub book_is : x.book ≡ book
  pub opening_is : x.version.opening ≡ opening

-- a seat of that shelf
abbrev pub IsSeatOfOpening : Book → Graph → SeatView → Type 0
IsSeatOfOpening book opening seat = IsOfOpening book opening seat.seen

-- a receipt tells of a version whose batches end with this one and have its number; the outcomes are those of the operation
-- rule over what the batches before left, at which neither limit of the batch is met, nor that of their number
pub record IsReceiptOf (ops : List NamedOp) (number : ℕ) (results : List Outcome) (told : ToldView) : Type 0 where
  pub earlier : List (List NamedOp)
  pub ends : told.version.batches ≡ earlier ++ ops ∷ []
  pub number_is : number ≡ length told.version.batches
  pub outcomes_are : results ≡ outcomes ops (left_by earlier told.version.opening)
  pub few : length earlier < (left_by earlier told.version.opening).limits.batches
  pub limits : MeetsNeitherLimit ops (left_by earlier told.version.opening)

-- there is a version that began with this graph, and a number of free blocks, at which the batch is so refused
pub record IsRefusalOf (opening : Graph) (ops : List NamedOp) (e : ApplyError) : Type 0 where
  pub last : VersionView
  pub free : ℕ
  pub version_is : IsVersion last
  pub opening_is : last.opening ≡ opening
  pub refuses : Refuses last free ops e
