-- What a desk that posts keeps.
use Rattle.std.specs.Prelude.{◌≡◌, ℕ, ◌≤◌, Option, Some, None}
use Rattle.logbook.specs.Pages.{Book}
use Rattle.graph_version.specs.Versions.{empty_version}
use Rattle.version_shelf.specs.Shelves.{ShelfView}
use Rattle.store_steps.specs.{Desks.DeskView, Opening.opened_desk}
pub use Rattle.desk.specs.Kept.{journal_entry}

-- a desk, which history its shelf posts, and how many workers apply a batch
pub record DeskState : Type 0 where
  pub book : Book
  pub workers : ℕ
  pub desk : DeskView

-- the desk that is kept, and any other while it is taken out, which nothing that a call leaves ever shows
abbrev pub kept_desk : Option DeskView → DeskView
kept_desk (Some desk) = desk
kept_desk None = opened_desk 0 empty_version

-- the shelf has posted the last version's batches, and readers find these
pub record IsDeskState (d : DeskState) (shelf : ShelfView) : Type 0 where
  pub opening_is : shelf.opening ≡ d.desk.last.opening
  pub posted_is : shelf.posted ≡ d.desk.last.batches
  pub shown_is : shelf.shown ≡ d.desk.last.batches
  pub workers_some : 1 ≤ d.workers
  pub workers_few : d.workers ≤ 8
