-- Columns that memory refused moved no place, and leave a batch that is shared and can't be copied as it was.
use Rattle.std.proofs.Common.{◌≡◌, ℕ, List, Option, Some, None, IsSome, refl, inr}
use Rattle.graph_types.specs.declared.batches.NamedOp.{NamedOp}
use Rattle.graph_types.specs.declared.batches.PushError.TheVariants.{BadName, BadWeight, BadTime, BatchFull, OutOfMemory}
use Rattle.batch_columns.specs.declared.columns.InsertError.TheVariants.{BadNumber, Refused as InsertRefused}
use Rattle.batch_columns.specs.declared.operations.OperationsError.{OperationsError}
use Rattle.batch_columns.specs.declared.operations.OperationsError.TheVariants.{BadLength, Refused, OutOfMemory as MemoryRanOut}
use Rattle.batch_columns.specs.Operations.{OperationTable, RefusesOperations}
use Rattle.store_handles.specs.declared.held.Held.{Held}
use Rattle.misteluk_c.specs.{Codes.{operations_code}, Columns.TellsColumns, Held.{batch_in, Asks}}

pub memory_moves_none : (limit : ℕ) (t : OperationTable) (from done : ℕ) (old : List NamedOp) (error : OperationsError)
    → RefusesOperations limit t from old done error → operations_code error ≡ 1 → done ≡ from
memory_moves_none limit t from done old BadLength refused code = refused.1
memory_moves_none limit t from done old (Refused BadNumber) refused code = cc
memory_moves_none limit t from done old (Refused (InsertRefused BadName)) refused code = cc
memory_moves_none limit t from done old (Refused (InsertRefused BadWeight)) refused code = cc
memory_moves_none limit t from done old (Refused (InsertRefused BadTime)) refused code = cc
memory_moves_none limit t from done old (Refused (InsertRefused BatchFull)) refused code = cc
memory_moves_none limit t from done old (Refused (InsertRefused OutOfMemory)) refused code = absurd (refused.reason refl)
memory_moves_none limit t from done old MemoryRanOut refused code = refused

at : (limit : ℕ) (t : OperationTable) (from : ℕ) (b : Option (List NamedOp)) (new : Held) → IsSome b → batch_in (Some new) ≡ b
    → Asks b 1 (λ ops. TellsColumns limit t from ops from (Some new) 1)
at limit t from None new some same = cc
at limit t from (Some ops) new some same = inr (MemoryRanOut, refl, refl, same)

pub columns_not_unshared : (limit : ℕ) (t : OperationTable) (from : ℕ) (before new : Held) → IsSome (batch_in (Some before))
    → batch_in (Some new) ≡ batch_in (Some before)
    → Asks (batch_in (Some before)) 1 (λ ops. TellsColumns limit t from ops from (Some new) 1)
columns_not_unshared limit t from before new some same = at limit t from (batch_in (Some before)) new some same
