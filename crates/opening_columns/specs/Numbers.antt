-- The numbers of names that stand in a dictionary.
use Rattle.std.specs.Prelude.{◌≡◌, ◌≤◌, ◌<◌, ◌++◌, ◌∷◌, [], ℕ, ℤ, List, Bool, true, false, IsTrue, All, length, if◌then◌else◌, ◌&&◌, not, nat_lt, pos, slice_get, slice_index_or, Option, Some, None, option_map}
use Rattle.graph_types.specs.{Limits.LimitsView, Graph.Graph, Valid.{is_name, is_kind_name, IsValid}, Step.{after, after_all, empty_graph_in, number_of, with_name}, Answer.is_listed}
use Rattle.graph_types.specs.{Parts.{names_after, kinds_after}, declared.batches.NamedOp.NamedOp}
use Rattle.vertex_names.specs.Book.{Book, with_entry}
use Rattle.batch_columns.specs.{Dictionaries.name_in, Operations.OperationTable}
use Rattle.opening_columns.specs.{Puts.{put_at, puts_before, graph_of_puts, IsPut}, declared.numbering.{Put.Put, EntryError.EntryError, Unnumbered.Unnumbered}}
use Rattle.graph_types.specs.{Limits.{is_weight, is_time}, Valid.{are_names, push_refusal_within}, declared.batches.PushError.PushError}
use Rattle.graph_types.specs.declared.batches.PushError.TheVariants.{BadName, BadWeight, BadTime}
use Rattle.batch_columns.specs.declared.columns.InsertError.{InsertError, TheVariants.{BadNumber, Refused}}
use Rattle.opening_columns.specs.declared.errors.OpenColumnsError.{OpenColumnsError}
use Rattle.opening_columns.specs.declared.errors.OpenColumnsError.TheVariants.{BadOperation, NamesFull as NamesTooMany, KindsFull as KindsTooMany, OutOfMemory as OutOfMemoryTold}
use Rattle.opening_columns.specs.declared.numbering.EntryError.TheVariants as entries
use Rattle.opening_columns.specs.declared.numbering.Unnumbered.TheVariants.{Bad, NamesFull, KindsFull, OutOfMemory}

-- whether bytes name a kind, or a vertex
abbrev pub may_name : Bool → List ℕ → Bool
may_name true name = is_kind_name name
may_name false name = is_name name

abbrev pub if_named : Bool → Option (List ℕ) → Option (List ℕ)
if_named is_kind None = None
if_named is_kind (Some name) = if may_name is_kind name then Some name else None

-- the name of an entry; none where there is no such entry, or it names nothing
abbrev pub entry_name : Bool → List ℕ → List ℕ → ℕ → Option (List ℕ)
entry_name is_kind text ends entry = if_named is_kind (name_in text ends entry)

-- a name with its number among names
pub record HasItsNumber (is_kind : Bool) (text ends : List ℕ) (entry : ℕ) (names : List (List ℕ)) (number : ℕ) : Type 0 where
  pub name : List ℕ
  pub name_is : entry_name is_kind text ends entry ≡ Some name
  pub listed : IsTrue (is_listed names name)
  pub number_is : number ≡ number_of names name

-- each number that was noted is the one of its entry's name
abbrev pub AreSeen : Bool → List ℕ → List ℕ → List (List ℕ) → List (Option ℕ) → Type 0
AreSeen is_kind text ends names seen =
    (entry number : ℕ) → slice_get seen entry ≡ Some (Some number) → HasItsNumber is_kind text ends entry names number

-- an entry's name has a number once it has appeared
pub record Enters (is_kind : Bool) (text ends : List ℕ) (entry : ℕ) (old : Book) (number : ℕ) (new : Book) : Type 0 where
  pub name : List ℕ
  pub name_is : entry_name is_kind text ends entry ≡ Some name
  pub number_is : number ≡ number_of new.names name
  pub new_is : new ≡ with_entry old name

-- why it has none: it is no name, or the book is full; memory may run out
abbrev pub RefusesEntry : Bool → List ℕ → List ℕ → ℕ → Book → EntryError → Type 0
RefusesEntry is_kind text ends entry book entries.Bad = entry_name is_kind text ends entry ≡ None
RefusesEntry is_kind text ends entry book entries.Full =
    (name : List ℕ) × (entry_name is_kind text ends entry ≡ Some name) × (book.limit < length (with_name book.names name))
RefusesEntry is_kind text ends entry book entries.OutOfMemory = Unit {0}

-- a vertex's refusal, and a kind's, as that of its row
abbrev pub vertex_refusal : EntryError → Unnumbered
vertex_refusal entries.Bad = Bad
vertex_refusal entries.Full = NamesFull
vertex_refusal entries.OutOfMemory = OutOfMemory

abbrev pub kind_refusal : EntryError → Unnumbered
kind_refusal entries.Bad = Bad
kind_refusal entries.Full = KindsFull
kind_refusal entries.OutOfMemory = OutOfMemory

-- a row is a valid operation, and with its numbers leaves what the operation does
pub record Takes (t : OperationTable) (place : ℕ) (names kinds : Book) (p : Put) (names' kinds' : Book) : Type 0 where
  pub op : NamedOp
  pub op_is : put_at t place ≡ Some op
  pub valid : IsValid op
  pub leaves : (limits : LimitsView) (puts : List Put) → after op (graph_of_puts t limits names.names kinds.names puts)
      ≡ graph_of_puts t limits names'.names kinds'.names (puts ++ p ∷ [])
  pub put : IsPut t p
  pub names_fit : (names'.limit ≡ names.limit) × (length names'.names ≤ names'.limit)
  pub kinds_fit : (kinds'.limit ≡ kinds.limit) × (length kinds'.names ≤ kinds'.limit)

-- why a row is not taken: it is no valid operation, or its names or kinds are too many
abbrev pub RefusesNumbers : OperationTable → ℕ → Book → Book → Unnumbered → Type 0
RefusesNumbers t place names kinds Bad = (op : NamedOp) → put_at t place ≡ Some op → IsValid op → ⊥
RefusesNumbers t place names kinds NamesFull =
    (op : NamedOp) → put_at t place ≡ Some op → IsValid op → names.limit < length (names_after op names.names)
RefusesNumbers t place names kinds KindsFull =
    (op : NamedOp) → put_at t place ≡ Some op → IsValid op
    → (length (names_after op names.names) ≤ names.limit) × (kinds.limit < length (kinds_after op kinds.names))
RefusesNumbers t place names kinds OutOfMemory = Unit {0}

-- a row is an insertion or an addition of a weight and a time in range
abbrev pub is_sound : OperationTable → ℕ → Bool
is_sound t place =
    nat_lt (slice_index_or t.sorts place 0) 2 && (is_weight (slice_index_or t.weights place (pos 0)) && is_time (slice_index_or t.times place 0))

-- the rows before a place are these operations, valid, and within the limits
pub record AreTaken (limits : LimitsView) (t : OperationTable) (place : ℕ) (ops : List NamedOp) : Type 0 where
  pub are : puts_before t place ≡ Some ops
  pub valid : All IsValid ops
  pub names : length (after_all ops (empty_graph_in limits)).names ≤ limits.names
  pub kinds : length (after_all ops (empty_graph_in limits)).kinds ≤ limits.kinds

-- a book of so many names at the most
abbrev pub book_of : ℕ → List (List ℕ) → Book
book_of limit names = record { limit = limit; names = names }

-- why a row is no valid operation: there is none, or a batch refuses it
abbrev pub refusal_of : Option NamedOp → Option InsertError
refusal_of None = Some BadNumber
refusal_of (Some op) = option_map Refused (push_refusal_within 1 op 0)

abbrev pub row_refusal : OperationTable → ℕ → Option InsertError
row_refusal t place = refusal_of (put_at t place)

-- the same of what is in a row, by names
abbrev pub values_refusal : List ℕ → List ℕ → List ℕ → ℤ → ℕ → Option PushError
values_refusal kind source target weight time =
    if not (are_names kind source target) then Some BadName
    else (if not (is_weight weight) then Some BadWeight else (if not (is_time time) then Some BadTime else None))

-- a row is a valid operation behind a book of names and one of kinds
pub record IsValidRow (t : OperationTable) (place : ℕ) (op : NamedOp) : Type 0 where
  pub op_is : put_at t place ≡ Some op
  pub valid : IsValid op

-- why a row isn't taken, as it is told: what its operation is refused for, or else that its names, or its kinds alone, would be too many
abbrev pub ReportsRow : OperationTable → ℕ → Book → Book → OpenColumnsError → Type 0
ReportsRow t place names kinds (BadOperation error) = row_refusal t place ≡ Some error
ReportsRow t place names kinds NamesTooMany =
    (op : NamedOp) × IsValidRow t place op × (names.limit < length (names_after op names.names))
ReportsRow t place names kinds KindsTooMany = (op : NamedOp) × IsValidRow t place op
    × (length (names_after op names.names) ≤ names.limit) × (kinds.limit < length (kinds_after op kinds.names))
ReportsRow t place names kinds _ = ⊥

-- what is told of a row that is a valid operation
abbrev pub full_error : Unnumbered → OpenColumnsError
full_error KindsFull = KindsTooMany
full_error _ = NamesTooMany

-- behind these operations the row at a place has no numbers
abbrev pub RefusesBehind : LimitsView → OperationTable → ℕ → Graph → Unnumbered → Type 0
RefusesBehind limits t place g why =
    (place < length t.sorts) × RefusesNumbers t place (book_of limits.names g.names) (book_of limits.kinds g.kinds) why

-- the row at a place is the first that has none, and why; memory may run out at any place
abbrev pub RefusesAt : LimitsView → OperationTable → ℕ → Unnumbered → Type 0
RefusesAt limits t place OutOfMemory = Unit {0}
RefusesAt limits t place why = (ops : List NamedOp) × AreTaken limits t place ops
    × RefusesBehind limits t place (after_all ops (empty_graph_in limits)) why

-- of the rows the one at a place is the first that isn't taken, and why
pub record IsFirstUntaken (limits : LimitsView) (t : OperationTable) (place : ℕ) (error : OpenColumnsError) : Type 0 where
  pub ops : List NamedOp
  pub taken : AreTaken limits t place ops
  pub within : place < length t.sorts
  pub told : ReportsRow t place (book_of limits.names (after_all ops (empty_graph_in limits)).names)
      (book_of limits.kinds (after_all ops (empty_graph_in limits)).kinds) error

-- where rows have no numbers: one isn't taken, or memory ran out
abbrev pub RefusesRows : LimitsView → OperationTable → ℕ → OpenColumnsError → Type 0
RefusesRows limits t place OutOfMemoryTold = place ≡ 0
RefusesRows limits t place error = IsFirstUntaken limits t place error
