-- The codes that C sees.
use Rattle.std.specs.Prelude.{ℕ, Result, Ok, Err}
use Rattle.graph_types.specs.declared.batches.PushError.{PushError}
use Rattle.graph_types.specs.declared.batches.PushError.TheVariants as push
use Rattle.batch_columns.specs.declared.columns.InsertError.{InsertError}
use Rattle.batch_columns.specs.declared.columns.InsertError.TheVariants as insertion
use Rattle.batch_columns.specs.declared.operations.OperationsError.{OperationsError}
use Rattle.batch_columns.specs.declared.operations.OperationsError.TheVariants as operations
use Rattle.version_columns.specs.declared.views.ColumnError.{ColumnError}
use Rattle.version_columns.specs.declared.views.ColumnError.TheVariants as column
use Rattle.version_columns.specs.declared.names.TextError.{TextError}
use Rattle.version_columns.specs.declared.names.TextError.TheVariants as text

-- what a call about columns is told by
abbrev pub column_code : ColumnError → ℕ
column_code column.NoKind = 17
column_code column.NoVertex = 16
column_code column.NoEdge = 18
column_code column.BadLength = 4
column_code column.OutOfMemory = 1

abbrev pub columns_code : Result (Unit {0}) ColumnError → ℕ
columns_code (Ok _) = 0
columns_code (Err error) = column_code error

-- what an operation that is to be appended is told by
abbrev pub push_code : Result (Unit {0}) PushError → ℕ
push_code (Ok _) = 0
push_code (Err push.BadName) = 5
push_code (Err push.BadWeight) = 6
push_code (Err push.BadTime) = 7
push_code (Err push.BatchFull) = 10
push_code (Err push.OutOfMemory) = 1

-- what an operation of columns is told by
abbrev pub insert_code : InsertError → ℕ
insert_code insertion.BadNumber = 8
insert_code (insertion.Refused error) = push_code (Err error)

-- what operations in columns that aren't appended are told by
abbrev pub operations_code : OperationsError → ℕ
operations_code operations.BadLength = 4
operations_code (operations.Refused error) = insert_code error
operations_code operations.OutOfMemory = 1

-- what names are told by, where there are too few of them
abbrev pub names_result_code : ℕ → Result (Unit {0}) TextError → ℕ
names_result_code missing (Ok _) = 0
names_result_code missing (Err text.Fewer) = missing
names_result_code missing (Err text.NoRoom) = 4
