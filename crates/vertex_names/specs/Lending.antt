-- Names as a book lends them.
use Rattle.std.specs.Prelude.{ℕ, List, drop}
use Rattle.vertex_names.specs.declared.lending.NameIter.{NameIter}

-- the names that are still to be lent
abbrev pub names_left : NameIter → List (List ℕ)
names_left it = drop it.number it.book.now.names
