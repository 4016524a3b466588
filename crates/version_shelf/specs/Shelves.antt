-- A shelf, what is told of its versions, and its rule.
use Rattle.std.specs.Prelude.{ℕ, ◌≡◌, List, [], ◌∷◌, ◌++◌, Option, Some}
use mathlib.Core.Option.{some}
use mathlib.Core.List.{IsPrefix}
use lib.ListN.{get_elem?}
use Rattle.logbook.specs.Pages.{Book}
use Rattle.graph_types.specs.{Graph.Graph, declared.batches.NamedOp.NamedOp}
use Rattle.graph_version.specs.Versions.{VersionView}
use Rattle.version_shelf.specs.Histories.{HistoryView}

-- a version that was posted on the shelf whose history is this book's
pub record ToldView : Type 0 where
  pub book : Book
  pub version : VersionView

-- two versions of one shelf: it has one history, and its versions have one opening graph
abbrev pub IsOfOneShelf : ToldView → ToldView → Type 0
IsOfOneShelf x y = (x.book ≡ y.book) × (x.version.opening ≡ y.version.opening)

-- the second version has the opening graph of the first, and its batches begin with those of the first
abbrev pub Continues : VersionView → VersionView → Type 0
Continues v w = (v.opening ≡ w.opening) × IsPrefix v.batches w.batches

-- y is of the shelf of x, and its version continues that of x
abbrev pub Begins : ToldView → ToldView → Type 0
Begins x y = (x.book ≡ y.book) × Continues x.version y.version

-- a shelf: its history, the opening graph of its versions, the posted batches, and those of the version that readers find
pub record ShelfView : Type 0 where
  pub book : Book
  pub opening : Graph
  pub posted : List (List NamedOp)
  pub shown : List (List NamedOp)

-- a shelf that shows this version without batches
abbrev pub opened_shelf : Book → VersionView → ShelfView
opened_shelf book v = record { book = book; opening = v.opening; posted = []; shown = [] }

-- a version with one batch more than the shelf has posted
abbrev pub IsNext : ShelfView → VersionView → Type 0
IsNext shelf v = (v.opening ≡ shelf.opening) × ((batch : List NamedOp) × (v.batches ≡ shelf.posted ++ batch ∷ []))

-- the shelf of a history and of what readers find
abbrev pub shelf_of : HistoryView → ToldView → ShelfView
shelf_of history shown = record {
  book = history.book;
  opening = shown.version.opening;
  posted = history.batches;
  shown =
      shown.version.batches;
}

-- what readers find is a version of this history
abbrev pub IsShowing : HistoryView → ToldView → Type 0
IsShowing history shown = (shown.book ≡ history.book) × IsPrefix shown.version.batches history.batches

-- the rule of the shelf: what is shown begins with all that was seen. A place's view is what it saw last, if it saw anything
abbrev pub Keeps : ToldView → List (Option ToldView) → Type 0
Keeps x views = (place : ℕ) (u : ToldView) → get_elem? views place ≡ some (Some u) → Begins u x

-- a step of a place, after which it has seen what is shown: what it had seen begins x, and y is seen afterwards
abbrev pub Sees : Option ToldView → ToldView → ToldView → Option ToldView → Type 0
Sees v x y w = ((u : ToldView) → v ≡ Some u → Begins u x) × (w ≡ Some y)
