-- The history of the posted batches: its rule, and what its steps tell.
--
-- Who adds a batch uses up a right. A right is a cell of the book that isn't at home, with the one pen that may bring it
-- home: the rights stand in the order in which they were made, and each batch takes the first that is left. So who has the
-- right behind as many batches as it knows of knows all batches.
use Rattle.graph_types.specs.declared.batches.NamedOp.{NamedOp}
use Rattle.std.specs.Prelude.{ℕ, suc, ◌≡◌, ◌+◌, ◌==◌, true, false, List, [], ◌∷◌, ◌++◌, length, replicate}
use Rattle.logbook.specs.Pages.{Cell, Step, View, Book, Named, Nib, nib, may_write, may_make}

-- a beginning of the history of this book
pub record HistoryView : Type 0 where
  pub book : Book
  pub batches : List (List NamedOp)

-- rights that were used up, and rights that are left
abbrev pub rights : ℕ → ℕ → List Cell
rights used left = replicate used (0, true) ++ replicate left (0, false)

-- the first word is how many rights were made. A book has two words, of which this one leaves the second at 0
abbrev pub cells_of : ℕ → ℕ → List Cell
cells_of used left = (used + left, true) ∷ (0, true) ∷ rights used left

-- as many rights were used up as there are batches
pub record AreRightsUsed (cells : List Cell) (log : List (List NamedOp)) : Type 0 where
  pub left : ℕ
  pub words : cells ≡ cells_of (length log) left

-- the word of the rights made
abbrev pub end_of : Book → Named
end_of book = record { tracked = true; key = 0; book = book }

-- the right behind so many others
abbrev pub right_at : ℕ → Nib
right_at place = nib may_write (suc (suc place)) 0

-- the end of a history: its word, and the right to add the batch behind all of these
abbrev pub IsEnd : Named → Book → Nib → HistoryView → Type 0
IsEnd word book pen h = (word ≡ end_of h.book) × (book ≡ h.book) × (pen ≡ right_at (length h.batches))

-- where as many rights were made as was expected, one more was made
abbrev pub Makes : Step (List NamedOp) → View (List NamedOp) ℕ → ℕ → View (List NamedOp) ℕ → Type 0
Makes s v found w = (found == s.old) ≡ true → w.1.0 ≡ nib may_make (suc (suc s.old)) 0

-- the batch was added to all that had been seen
abbrev pub Adds : Step (List NamedOp) → View (List NamedOp) ℕ → ℕ → View (List NamedOp) ℕ → Type 0
Adds s v found w = w.0 ≡ v.0 ++ s.ask ∷ []

-- as many batches were added as the right says, which is kept
abbrev pub Confirms : Step (List NamedOp) → View (List NamedOp) ℕ → ℕ → View (List NamedOp) ℕ → Type 0
Confirms s v found w = (v.1.0.key ≡ suc (suc (length w.0))) × (w.1.0 ≡ v.1.0)
