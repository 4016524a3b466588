-- What the calls that take columns tell.
use Rattle.std.specs.Prelude.{◌≡◌, ◌⊎◌, ◌≤◌, ◌==◌, MatchBool, ℕ, List, Option, Some, Result, Ok, Err, IsSomeAnd}
use Rattle.graph_types.specs.{Limits.most_operations, declared.batches.NamedOp.NamedOp}
use Rattle.batch_columns.specs.declared.operations.OperationsError.{OperationsError}
use Rattle.batch_columns.specs.{Dictionaries.Insertions, Operations.{OperationTable, IsExtended, RefusesOperations}}
use Rattle.owned_desk.specs.Owned.{OwnedView}
use Rattle.desk_columns.specs.{Feeding.Feeds, Opening.OpensColumns}
use Rattle.desk_columns.specs.declared.columns.InsertColumnsError.{InsertColumnsError}
use Rattle.desk_columns.specs.declared.columns.InsertColumnsError.TheVariants as columns
use Rattle.desk_columns.specs.declared.opening.OpenDeskError.{OpenDeskError}
use Rattle.desk_columns.specs.declared.opening.OpenDeskError.TheVariants as openings
use Rattle.opening_columns.specs.declared.errors.OpenColumnsError.{OpenColumnsError}
use Rattle.opening_columns.specs.declared.errors.OpenColumnsError.TheVariants as rows
use Rattle.desk_counts.specs.declared.counts.Counts.{Counts}
use Rattle.store_handles.specs.declared.held.Held.{Held}
use Rattle.misteluk_c.specs.declared.appending.OperationColumns.{OperationColumns}
use Rattle.misteluk_c.specs.{Codes.{insert_code, operations_code}, Desks.{held_desk, apply_code}, Held.{batch_in, Asks}}

-- operations of columns, from a place on, are behind the own ones of a batch that may have as many as the limit; or one is refused,
-- and the batch is as it was
abbrev pub TellsColumns : ℕ → OperationTable → ℕ → List NamedOp → ℕ → Option Held → ℕ → Type 0
TellsColumns limit t from old done new code =
    ((code ≡ 0) × IsSomeAnd (batch_in new) (IsExtended limit t from old done))
    ⊎ ((error : OperationsError) × (code ≡ operations_code error) × RefusesOperations limit t from old done error
    × (batch_in new ≡ Some old))

-- how many operations a caller may let a batch have
abbrev pub IsOperationLimit : ℕ → Type 0
IsOperationLimit limit = (1 ≤ limit) × (limit ≤ most_operations)

-- the same under a limit of the caller's, where it is one; else nothing is appended
abbrev pub TellsColumnsWithin : ℕ → OperationTable → ℕ → Option Held → ℕ → Option Held → ℕ → Type 0
TellsColumnsWithin limit t from old done new code =
    (IsOperationLimit limit × Asks (batch_in old) code (λ ops. TellsColumns limit t from ops done new code))
    ⊎ ((IsOperationLimit limit → ⊥) × (code ≡ 19) × (new ≡ old) × (done ≡ from))

-- what the columns of C's struct have
abbrev pub given_table : OperationColumns → OperationTable
given_table lent =
    record {
      kind_text = lent.kind_text.now;
      kind_ends = lent.kind_ends.now;
      text = lent.text.now;
      ends = lent.ends.now;
      sorts = lent.operations.now;
      kinds = lent.kinds.now;
      sources = lent.sources.now;
      targets = lent.targets.now;
      weights = lent.weights.now;
      times = lent.times.now;
    }

-- the same of C's struct, where that has its size; else nothing is appended
abbrev pub TellsGiven : OperationColumns → ℕ → ℕ → Option Held → ℕ → Option Held → ℕ → Type 0
TellsGiven columns limit from old done new code =
    MatchBool (columns.size == 168) (TellsColumnsWithin limit (given_table columns) from old done new code)
    ((code ≡ 21) × (new ≡ old) × (done ≡ from))

-- what insertions in columns are told by
abbrev pub insert_columns_code : Result (Unit {0}) InsertColumnsError → ℕ
insert_columns_code (Ok _) = 0
insert_columns_code (Err columns.BadLength) = 4
insert_columns_code (Err (columns.BadInsertion error)) = insert_code error
insert_columns_code (Err (columns.Refused error)) = apply_code error
insert_columns_code (Err columns.OutOfMemory) = 1

-- insertions of columns are fed to a desk, as far as they are not refused
abbrev pub TellsFeeding : Insertions → OwnedView → Option Held → ℕ → Counts → ℕ → Type 0
TellsFeeding c old desk code counts done =
    IsSomeAnd (held_desk desk)
    (λ new. (answer : Result (Unit {0}) InsertColumnsError) × (code ≡ insert_columns_code answer) × Feeds old c answer new counts done)

-- what columns that aren't an opening are told by
abbrev pub refused_rows_code : OpenColumnsError → ℕ
refused_rows_code rows.BadLength = 4
refused_rows_code (rows.BadOperation error) = insert_code error
refused_rows_code rows.NamesFull = 12
refused_rows_code rows.KindsFull = 13
refused_rows_code (rows.PoolEmpty needed free) = 14
refused_rows_code rows.OutOfMemory = 1

abbrev pub open_columns_code : Result (Unit {0}) OpenDeskError → ℕ
open_columns_code (Ok _) = 0
open_columns_code (Err openings.NotEmpty) = 20
open_columns_code (Err (openings.Refused error)) = refused_rows_code error

-- a desk opens anew with columns, or is as it was
abbrev pub TellsOpening : OperationTable → OwnedView → Option Held → ℕ → ℕ → Type 0
TellsOpening t old desk code done =
    IsSomeAnd (held_desk desk)
    (λ new. (answer : Result (Unit {0}) OpenDeskError) × (code ≡ open_columns_code answer) × OpensColumns t old answer new done)

-- the same of C's struct, where that has its size
abbrev pub OpensGiven : OperationColumns → Option Held → ℕ → Option Held → ℕ → ℕ → Type 0
OpensGiven columns old from new done code =
    MatchBool (columns.size == 168) (Asks (held_desk old) code (λ o. TellsOpening (given_table columns) o new code done))
    ((code ≡ 21) × (new ≡ old) × (done ≡ from))
