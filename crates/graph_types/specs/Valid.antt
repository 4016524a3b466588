-- Which names, operations and batches are valid.
use Rattle.std.specs.Prelude.{ℕ, ◌≤◌, nat_le, List, [], ◌∷◌, length, Bool, true, if◌then◌else◌, bytes_eq, not, ◌&&◌, IsTrue, All}
use Rattle.std.specs.{List.list_all, declared.option.Option.{Option, TheVariants.{None, Some}}}
use Rattle.graph_types.specs.{Limits.{most_operations, operation_limit, is_weight, is_time, IsTime}, Changes.{AllowsUpTo, IsChange}}
use Rattle.graph_types.specs.{Parts.{Parts, OfEdge, OfAll, parts_of}, declared.batches.{NamedOp.NamedOp, PushError.PushError}}
use Rattle.graph_types.specs.declared.changes.EdgeChange.{EdgeChange}
use Rattle.graph_types.specs.declared.changes.EdgeChange.TheVariants.{Insert as ToInsert, Incr as ToIncr, Remove as ToRemove}
use Rattle.graph_types.specs.declared.batches.PushError.TheVariants.{BadName, BadWeight, BadTime, BatchFull}

-- from ! to ~
abbrev pub is_printable : ℕ → Bool
is_printable byte = nat_le 33 byte && nat_le byte 126

-- a name has 1 to 64 bytes, each from ! to ~
abbrev pub is_name : List ℕ → Bool
is_name bytes = nat_le 1 (length bytes) && nat_le (length bytes) 64 && list_all is_printable bytes

-- a kind's name is not *
abbrev pub is_kind_name : List ℕ → Bool
is_kind_name bytes = is_name bytes && not (bytes_eq bytes (42 ∷ []))

-- the names of an edge's kind and of its two ends
abbrev pub are_names : List ℕ → List ℕ → List ℕ → Bool
are_names kind source target = is_kind_name kind && is_name source && is_name target

-- of a change, whether its weight or amount, and its time are in range, where it has any
abbrev pub has_weight_at : EdgeChange → Bool
has_weight_at (ToInsert weight time most) = is_weight weight
has_weight_at (ToIncr amount time most) = is_weight amount
has_weight_at ToRemove = true

abbrev pub has_time_at : EdgeChange → Bool
has_time_at (ToInsert weight time most) = is_time time
has_time_at (ToIncr amount time most) = is_time time
has_time_at ToRemove = true

-- the same of an operation by its parts, and whether the names of its edge are such names
abbrev pub has_names_in : Parts → Bool
has_names_in (OfEdge change kind source target) = are_names kind source target
has_names_in (OfAll time) = true

abbrev pub has_weight_in : Parts → Bool
has_weight_in (OfEdge change kind source target) = has_weight_at change
has_weight_in (OfAll time) = true

abbrev pub has_time_in : Parts → Bool
has_time_in (OfEdge change kind source target) = has_time_at change
has_time_in (OfAll time) = is_time time

abbrev pub has_names : NamedOp → Bool
has_names op = has_names_in (parts_of op)

abbrev pub has_weight : NamedOp → Bool
has_weight op = has_weight_in (parts_of op)

abbrev pub has_time : NamedOp → Bool
has_time op = has_time_in (parts_of op)

pub record IsValid (op : NamedOp) : Type 0 where
  pub names : IsTrue (has_names op)
  pub weight : IsTrue (has_weight op)
  pub time : IsTrue (has_time op)

-- the parts of a valid operation, whose change allows weights of at most this size
abbrev pub ArePartsWithin : ℕ → Parts → Type 0
ArePartsWithin most (OfEdge change kind source target) =
    IsTrue (are_names kind source target) × IsChange change × AllowsUpTo most change
ArePartsWithin most (OfAll time) = IsTime time

-- the first refusal that holds of an operation to be added to a batch of so many, which may have as many as the limit
abbrev pub push_refusal_within : ℕ → NamedOp → ℕ → Option PushError
push_refusal_within limit op len =
    if not (has_names op) then Some BadName
    else (if not (has_weight op) then Some BadWeight
    else (if not (has_time op) then Some BadTime
    else (if nat_le limit len then Some BatchFull else None)))

abbrev pub push_refusal : NamedOp → ℕ → Option PushError
push_refusal op len = push_refusal_within operation_limit op len

-- valid operations, not more than the most
pub record IsBatch (ops : List NamedOp) : Type 0 where
  pub few : length ops ≤ most_operations
  pub valid : All IsValid ops
