-- The names of a book's tables, of which there are none before its first name.
use Rattle.std.specs.{Prelude.{ℕ, List, [], Option, None, Some}, Arc.arc_value, declared.{sync.Arc.Arc, alloc.Global.Global}}
use Rattle.vertex_names.specs.declared.tables.Tables.{Tables}

abbrev pub names_of : Option (Arc Tables Global) → List (List ℕ)
names_of None = []
names_of (Some tables) = arc_value {X = Tables} tables
