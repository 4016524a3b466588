-- Which edges count, and what is refused.
use Rattle.std.specs.Prelude.{◌≡◌, ◌⊎◌, ◌==◌, ◌-◌, ◌^◌, ℕ, nat_lt, length, Bool, true, false, if◌then◌else◌, Option, Some, None, Result, Ok, Err}
use Rattle.graph_types.specs.{Graph.Graph, declared.ids.Filter.Filter}
use Rattle.version_columns.specs.declared.views.View.{View}
use Rattle.version_columns.specs.declared.views.ColumnError.{ColumnError}
use Rattle.version_columns.specs.declared.views.ColumnError.TheVariants.{NoKind, NoVertex, BadLength, OutOfMemory}

-- what stands for any kind, and for no level
abbrev pub no_number : ℕ
no_number = 2 ^ 32 - 1

-- the filter that a view of a graph is; none where its kind is no kind of the graph
abbrev pub filter_of : Graph → View → Option Filter
filter_of g view =
    if view.kind == no_number then Some (record { kind = None; lo = view.from; hi = view.to })
    else (if nat_lt view.kind (length g.kinds)
    then Some (record { kind = Some (record { 0 = view.kind }); lo = view.from; hi = view.to })
    else None)

-- the first refusal that holds, of the kind, the vertex and the lengths
abbrev pub first_view_refusal : Option Filter → Bool → Bool → Option ColumnError
first_view_refusal None vertex_ok length_ok = Some NoKind
first_view_refusal (Some f) false length_ok = Some NoVertex
first_view_refusal (Some f) true false = Some BadLength
first_view_refusal (Some f) true true = None

-- a result that is this refusal, if there is one
abbrev pub column_outcome : Option ColumnError → Result (Unit {0}) ColumnError
column_outcome None = Ok tt
column_outcome (Some error) = Err error

-- the result is the refusal, if there is one; else what was to be written is written, or memory was refused. A refusal leaves the
-- columns as they were
abbrev pub IsWritten : {X : Type 0} → Option ColumnError → X → X → Type 0 → Result (Unit {0}) ColumnError → Type 0
IsWritten refusal old new Written (Ok _) = (refusal ≡ None) × Written
IsWritten refusal old new Written (Err error) = (new ≡ old) × ((refusal ≡ Some error) ⊎ ((refusal ≡ None) × (error ≡ OutOfMemory)))
