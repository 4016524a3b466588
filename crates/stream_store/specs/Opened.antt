-- A store that was opened and has no name yet.
use Rattle.std.specs.Prelude.{◌≡◌, List, All}
use Rattle.logbook.specs.Pages.{Book}
use Rattle.graph_types.specs.Graph.{Graph}
use Rattle.block_reclamation.specs.Board.{BoardState}
use Rattle.stream_store.specs.{Kept.DeskState, Seats.SeatView, Seats.HasSeen}

-- a desk, a board and seats of one opening
pub record OpenedView : Type 0 where
  pub desk : DeskState
  pub board : BoardState
  pub seats : List SeatView

-- its seats have seen the desk's last version alone
abbrev pub IsOpened : OpenedView → Type 0
IsOpened o = All (HasSeen o.desk.book o.desk.desk.last) o.seats

-- it posts the history of this book, and began with this graph
pub record IsOpeningOf (book : Book) (opening : Graph) (o : OpenedView) : Type 0 where
  pub book_is : o.desk.book ≡ book
  pub opening_is : o.desk.desk.last.opening ≡ opening
