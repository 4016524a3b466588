-- Insertions whose vertices are numbers in a dictionary of names.
use Rattle.std.specs.Prelude.{◌≡◌, ◌⊎◌, ◌&&◌, ◌+◌, ◌++◌, ◌∷◌, [], ℕ, ℤ, pos, zero, suc, nat_le, List, length, if◌then◌else◌}
use Rattle.std.specs.Prelude.{slice_get, slice_index_or, slice_range, Option, Some, None, Result, Ok, Err}
use Rattle.graph_types.specs.declared.batches.{NamedOp.NamedOp, NamedOp.TheVariants.Insert, PushError.PushError}
use Rattle.graph_types.specs.declared.batches.PushError.TheVariants.{OutOfMemory}
use Rattle.graph_types.specs.Valid.{push_refusal_within}
use Rattle.batch_columns.specs.declared.columns.InsertError.{InsertError}
use Rattle.batch_columns.specs.declared.columns.InsertError.TheVariants.{BadNumber, Refused}

-- where a name begins: where the one before it ends
abbrev pub start_of : List ℕ → ℕ → ℕ
start_of ends zero = 0
start_of ends (suc n) = slice_index_or ends n 0

-- the bytes from one place to below another, where these don't fall and don't leave the text
abbrev pub piece : List ℕ → ℕ → ℕ → Option (List ℕ)
piece text start end =
    if nat_le start end && nat_le end (length text) then Some (slice_range text start end) else None

-- the name of a number; none where the number is past the dictionary, or its ends fall or leave the text
abbrev pub name_ending : List ℕ → ℕ → Option ℕ → Option (List ℕ)
name_ending text start None = None
name_ending text start (Some end) = piece text start end

abbrev pub name_in : List ℕ → List ℕ → ℕ → Option (List ℕ)
name_in text ends n = name_ending text (start_of ends n) (slice_get ends n)

-- an insertion of a kind between two names
abbrev pub insertion : List ℕ → ℤ → ℕ → Option (List ℕ) → Option (List ℕ) → Option NamedOp
insertion kind weight time (Some source) (Some target) = Some (Insert kind source target weight time)
insertion kind weight time _ _ = None

-- an operation is appended to a batch that may have as many as the limit; or nothing is, and the first refusal that holds is
-- reported: out of memory may be reported in place of any
abbrev pub IsPushed : ℕ → NamedOp → List NamedOp → List NamedOp → Result (Unit {0}) PushError → Type 0
IsPushed limit op old new (Ok _) = (push_refusal_within limit op (length old) ≡ None) × (new ≡ old ++ op ∷ [])
IsPushed limit op old new (Err error) =
    (new ≡ old) × ((error ≡ OutOfMemory) ⊎ (push_refusal_within limit op (length old) ≡ Some error))

-- the same of an insertion that there is none of where a number is past the dictionary, or its ends fall or leave the text
abbrev pub IsInserted : ℕ → Option NamedOp → List NamedOp → List NamedOp → Result (Unit {0}) InsertError → Type 0
IsInserted limit None old new result = (result ≡ Err BadNumber) × (new ≡ old)
IsInserted limit (Some op) old new (Ok done) = IsPushed limit op old new (Ok done)
IsInserted limit (Some op) old new (Err (Refused error)) = IsPushed limit op old new (Err error)
IsInserted limit (Some op) old new (Err BadNumber) = ⊥

abbrev pub joined_operations : Option NamedOp → Option (List NamedOp) → Option (List NamedOp)
joined_operations (Some op) (Some ops) = Some (op ∷ ops)
joined_operations _ _ = None

-- the operations at so many places from one on, in order; none where one of them is none
abbrev pub in_order : (ℕ → Option NamedOp) → ℕ → ℕ → Option (List NamedOp)
in_order op_at at zero = Some []
in_order op_at at (suc n) = joined_operations (op_at at) (in_order op_at (at + 1) n)

-- insertions of a kind, as columns have them: numbers in a dictionary, weights and times
pub record Insertions : Type 0 where
  pub kind : List ℕ
  pub text : List ℕ
  pub ends : List ℕ
  pub sources : List ℕ
  pub targets : List ℕ
  pub weights : List ℤ
  pub times : List ℕ

-- the insertion at a place
abbrev pub insertion_at : Insertions → ℕ → Option NamedOp
insertion_at c at =
    insertion c.kind (slice_index_or c.weights at (pos 0)) (slice_index_or c.times at 0)
    (name_in c.text c.ends (slice_index_or c.sources at 0)) (name_in c.text c.ends (slice_index_or c.targets at 0))

-- the insertions at so many places from one on
abbrev pub insertions_from : Insertions → ℕ → ℕ → Option (List NamedOp)
insertions_from c at n = in_order (insertion_at c) at n
