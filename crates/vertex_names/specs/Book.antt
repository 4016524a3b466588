-- A book of names: the names that have appeared, in order of first appearance, and how many there may be.
use Rattle.std.specs.Prelude.{◌≢◌, ℕ, ◌<◌, ◌≤◌, ◌^◌, List, [], length, IsTrue, All, AllPairs}
use Rattle.graph_types.specs.{Step.with_name, Valid.is_name}
use Rattle.vertex_names.specs.declared.book.AddError.{AddError, TheVariants.{NamesFull, OutOfMemory}}

pub record Book : Type 0 where
  pub limit : ℕ
  pub names : List (List ℕ)

abbrev pub empty_book : ℕ → Book
empty_book limit = record { limit = limit; names = [] }

-- the book once a name has appeared: a name that is there changes nothing, and another goes last
abbrev pub with_entry : Book → List ℕ → Book
with_entry book name = record book { names = with_name book.names name }

-- the names are names, all different, and no more than the limit, so that each number fits 32 bits
pub record IsBook (book : Book) : Type 0 where
  pub fits : book.limit < 2 ^ 32
  pub few : length book.names ≤ book.limit
  pub distinct : AllPairs (λ a b. a ≢ b) book.names
  pub named : All (λ name. IsTrue (is_name name)) book.names

-- when a name is refused: where the book would have more names than its limit; memory may run out at any time
abbrev pub RefusesName : AddError → Book → List ℕ → Type 0
RefusesName NamesFull book name = book.limit < length (with_name book.names name)
RefusesName OutOfMemory book name = Unit {0}
