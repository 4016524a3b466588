-- Operations of any sort, whose kinds and vertices are numbers in dictionaries of names.
use Rattle.std.specs.Prelude.{◌≡◌, ◌≢◌, ◌≤◌, ◌<◌, ◌&&◌, ◌==◌, ◌+◌, ◌-◌, ◌++◌, ℕ, ℤ, pos, min, List, length, true, false}
use Rattle.std.specs.Prelude.{Bool, if◌then◌else◌, slice_index_or, Option, Some, None, Err}
use Rattle.graph_types.specs.{Valid.IsBatch, declared.batches.NamedOp.NamedOp}
use Rattle.graph_types.specs.declared.batches.NamedOp.TheVariants.{Insert, Incr, Remove, Expire}
use Rattle.graph_types.specs.declared.batches.PushError.TheVariants.{OutOfMemory as MemoryRanOut}
use Rattle.batch_columns.specs.declared.{columns.InsertError.InsertError, operations.Operations.Operations}
use Rattle.batch_columns.specs.declared.columns.InsertError.TheVariants.{Refused as InsertRefused}
use Rattle.batch_columns.specs.declared.operations.OperationsError.{OperationsError}
use Rattle.batch_columns.specs.declared.operations.OperationsError.TheVariants.{BadLength, Refused, OutOfMemory}
use Rattle.batch_columns.specs.Dictionaries.{in_order, name_in, IsInserted}

-- operations as columns have them, and the two dictionaries
pub record OperationTable : Type 0 where
  pub kind_text : List ℕ
  pub kind_ends : List ℕ
  pub text : List ℕ
  pub ends : List ℕ
  pub sorts : List ℕ
  pub kinds : List ℕ
  pub sources : List ℕ
  pub targets : List ℕ
  pub weights : List ℤ
  pub times : List ℕ

-- what columns that are lent have
abbrev pub table_of : Operations → OperationTable
table_of lent =
    record {
      kind_text = lent.kind_text.now;
      kind_ends = lent.kind_ends.now;
      text = lent.text.now;
      ends = lent.ends.now;
      sorts = lent.sorts.now;
      kinds = lent.kinds.now;
      sources = lent.sources.now;
      targets = lent.targets.now;
      weights = lent.weights.now;
      times = lent.times.now;
    }

-- the columns have one length
abbrev pub are_alike : OperationTable → Bool
are_alike t =
    (length t.kinds == length t.sorts) && (length t.sources == length t.sorts) && (length t.targets == length t.sorts)
    && (length t.weights == length t.sorts) && (length t.times == length t.sorts)

-- a sort of operation on an edge: 0 is an insertion, 1 an addition, 2 a removal
abbrev pub edge_operation : ℕ → List ℕ → List ℕ → List ℕ → ℤ → ℕ → Option NamedOp
edge_operation sort kind source target weight time =
    if sort == 0 then Some (Insert kind source target weight time)
    else (if sort == 1 then Some (Incr kind source target weight time)
    else (if sort == 2 then Some (Remove kind source target) else None))

-- the same between names, where these are in their dictionaries
abbrev pub named_operation : ℕ → Option (List ℕ) → Option (List ℕ) → Option (List ℕ) → ℤ → ℕ → Option NamedOp
named_operation sort (Some kind) (Some source) (Some target) weight time = edge_operation sort kind source target weight time
named_operation sort _ _ _ weight time = None

abbrev pub edge_operation_at : OperationTable → ℕ → Option NamedOp
edge_operation_at t place =
    named_operation (slice_index_or t.sorts place 0) (name_in t.kind_text t.kind_ends (slice_index_or t.kinds place 0))
    (name_in t.text t.ends (slice_index_or t.sources place 0)) (name_in t.text t.ends (slice_index_or t.targets place 0))
    (slice_index_or t.weights place (pos 0)) (slice_index_or t.times place 0)

-- the operation at a place: sort 3 is an expiry, which has a time alone
abbrev pub operation_at : OperationTable → ℕ → Option NamedOp
operation_at t place =
    if slice_index_or t.sorts place 0 == 3 then Some (Expire (slice_index_or t.times place 0)) else edge_operation_at t place

-- the operations at so many places from one on
abbrev pub operations_from : OperationTable → ℕ → ℕ → Option (List NamedOp)
operations_from t at n = in_order (operation_at t) at n

-- the first place that isn't in: there are no more operations, or a batch of so many, which may have as many as the limit, has no
-- room for more
abbrev pub first_out : ℕ → OperationTable → ℕ → ℕ → ℕ
first_out limit t count from = from + min (limit - count) (length t.sorts - from)

-- the operations from a place on are behind a batch's own, up to the first place that isn't in
pub record IsExtended (limit : ℕ) (t : OperationTable) (from : ℕ) (old : List NamedOp) (done : ℕ) (new : List NamedOp) : Type 0 where
  pub alike : are_alike t ≡ true
  pub ops : List NamedOp
  pub done_is : done ≡ first_out limit t (length old) from
  pub are : operations_from t from (done - from) ≡ Some ops
  pub new_is : new ≡ old ++ ops

-- of the operations that would be in, the one at this place is the first that is refused, and not because memory ran out
pub record IsFirstRefused (limit : ℕ) (t : OperationTable) (from : ℕ) (old : List NamedOp) (place : ℕ) (error : InsertError)
    : Type 0 where
  pub alike : are_alike t ≡ true
  pub ops : List NamedOp
  pub order : from ≤ place
  pub within : place < first_out limit t (length old) from
  pub before : operations_from t from (place - from) ≡ Some ops
  pub fit : IsBatch (old ++ ops)
  pub refused : IsInserted limit (operation_at t place) (old ++ ops) (old ++ ops) (Err error)
  pub reason : error ≢ InsertRefused MemoryRanOut

-- why none is appended, and which place is told: where memory ran out, the one that was given
abbrev pub RefusesOperations : ℕ → OperationTable → ℕ → List NamedOp → ℕ → OperationsError → Type 0
RefusesOperations limit t from old place BadLength = (are_alike t ≡ false) × (place ≡ from)
RefusesOperations limit t from old place (Refused error) = IsFirstRefused limit t from old place error
RefusesOperations limit t from old place OutOfMemory = place ≡ from
