-- What a handle holds, and what a call tells of it.
use Rattle.std.specs.Prelude.{◌≡◌, ◌⊎◌, ℕ, List, Option, Some, None, Result, MatchBool, MatchResult}
use Rattle.std.specs.Arc.{arc_value}
use Rattle.graph_types.specs.{Answer.is_listed, Limits.operation_limit, Step.number_of, declared.batches.NamedOp.NamedOp, declared.batches.PushError.PushError}
use Rattle.graph_types.specs.declared.batches.Batch.{Batch}
use Rattle.graph_version.specs.declared.versions.Version.{Version}
use Rattle.graph_version.specs.Versions.{VersionView}
use Rattle.graph_walks.specs.declared.incoming.Incoming.{Incoming}
use Rattle.version_columns.specs.declared.{views.ColumnError.ColumnError, names.TextError.TextError, lookups.Marks.Marks}
use Rattle.version_columns.specs.Texts.{WritesNames}
use Rattle.batch_columns.specs.Dictionaries.{IsPushed}
use Rattle.store_handles.specs.declared.held.Held.{Held}
use Rattle.store_handles.specs.declared.held.Held.TheVariants as held
use Rattle.misteluk_c.specs.Codes.{column_code, columns_code, push_code, names_result_code}

-- the version, and the batch, that a handle holds
abbrev pub held_version_of : Option Held → Option VersionView
held_version_of None = None
held_version_of (Some (held.Version version)) = Some (arc_value {X = Version} version)
held_version_of (Some (held.Indexed incoming)) = Some (arc_value {X = Incoming} incoming)
held_version_of (Some _) = None

abbrev pub batch_in : Option Held → Option (List NamedOp)
batch_in None = None
batch_in (Some (held.Batch batch)) = Some batch
batch_in (Some (held.Shared batch)) = Some (arc_value {X = Batch} batch)
batch_in (Some _) = None

-- what is no batch that is shared
abbrev pub IsAlone : Held → Type 0
IsAlone (held.Shared batch) = ⊥
IsAlone _ = Unit {0}

-- a call about what a handle holds tells so of it; where the handle holds no such thing, the code says that
abbrev pub Asks : {X : Type 0} → Option X → ℕ → (X → Type 0) → Type 0
Asks None code TellsCode = code ≡ 2
Asks (Some x) code TellsCode = TellsCode x

-- a call that makes something in a handle: made, or not made because memory ran out; and the handle is as it was where it holds
-- something
abbrev pub MakesHeld : Option Held → Option Held → ℕ → (Option Held → Type 0) → Type 0
MakesHeld None new code Made = ((code ≡ 0) × Made new) ⊎ ((code ≡ 1) × (new ≡ None))
MakesHeld (Some held) new code Made = (code ≡ 3) × (new ≡ Some held)

-- the code tells the answer of a call that writes columns
abbrev pub TellsCode : ℕ → (Result (Unit {0}) ColumnError → Type 0) → Type 0
TellsCode code Answers = (answer : Result (Unit {0}) ColumnError) × (code ≡ columns_code answer) × Answers answer

-- the code tells whether an operation was appended
abbrev pub TellsPush : NamedOp → List NamedOp → Option Held → ℕ → Type 0
TellsPush op old new code =
    (answer : Result (Unit {0}) PushError) × (ops : List NamedOp) × (batch_in new ≡ Some ops) × (code ≡ push_code answer)
    × IsPushed operation_limit op old ops answer

-- the number of a name that is listed, or the code that it is missing
abbrev pub TellsNumber : ℕ → List (List ℕ) → List ℕ → ℕ → ℕ → Type 0
TellsNumber missing names name code number =
    MatchBool (is_listed names name) ((code ≡ 0) × (number ≡ number_of names name)) (code ≡ missing)

-- names in one text
abbrev pub TellsNames : ℕ → List (List ℕ) → ℕ → List ℕ → List ℕ → List ℕ → ℕ → Type 0
TellsNames missing names first old new ends code =
    (answer : Result (Unit {0}) TextError) × (code ≡ names_result_code missing answer) × WritesNames names first old new ends answer

-- one edge
abbrev pub TellsEdge : Result Marks ColumnError → ℕ → Marks → Type 0
TellsEdge edge code marks = MatchResult edge (λ found. (code ≡ 0) × (marks ≡ found)) (λ error. code ≡ column_code error)
