-- What a reader is once the version that it lent is given back.
use Rattle.std.specs.{Prelude.⊤, Borrow.{follows_so, Fml, MutBor}}
use mathlib.Core.Option.{none}
use Rattle.version_shelf.specs.{Shelves.ToldView, contracts.readers.ShelfReader.the_row}

-- the reader then keeps a version of which P holds
abbrev pub Rests : MutBor ToldView → (ToldView → Type 0) → Fml
Rests reader P = follows_so the_row the_row reader.ghost_name none (λ _ _. ⊤) P
