-- The numbers of a batch's names, each operation by the names at its place.
use Rattle.std.specs.{Prelude.{ℕ, ◌≡◌, ◌<◌, ◌≤◌, List, ◌∷◌, length, map, Bool, if◌then◌else◌}, Option.{option_map, IfSome}}
use Rattle.std.specs.declared.option.Option.{Option, TheVariants.{None, Some}}
use Rattle.graph_types.specs.{Graph.{Graph, Key}, Limits.standard_limits, Step.{number_of, with_name, empty_graph}, Changes.IsChange}
use Rattle.graph_types.specs.{Answer.is_listed, Refusals.IsLimitRefusal, declared.{batches.NamedOp.NamedOp, refusals.ApplyError.ApplyError}}
use Rattle.vertex_names.specs.{Book.Book, declared.book.AddError.{AddError, TheVariants.{NamesFull, OutOfMemory}}}
use Rattle.graph_types.specs.Parts.{Parts, OfEdge, OfAll, parts_of}
use Rattle.edge_block.specs.Batches.{Resolved, AtKey, InAll}
use Rattle.batch_apply.specs.declared.resolve.{Ends.Ends, EdgeKey.EdgeKey, SeenKind.SeenKind}
use Rattle.batch_apply.specs.declared.resolve.ResolvedOp.{ResolvedOp, TheVariants.{Edge, Expire}}

-- a name's number, if it has appeared
abbrev pub known : List (List ℕ) → List ℕ → Option ℕ
known names name = if is_listed names name then Some (number_of names name) else None

-- the numbers of an operation's source and target, by these names
abbrev pub ends_by : List (List ℕ) → Parts → Ends
ends_by names (OfEdge change kind source target) = record { source = known names source; target = known names target }
ends_by names (OfAll time) = record { source = None; target = None }

abbrev pub ends_in : List (List ℕ) → NamedOp → Ends
ends_in names op = ends_by names (parts_of op)

-- what is found of each operation's ends: the number of each end, exactly where the names have it
abbrev pub AreFound : List (List ℕ) → List NamedOp → List Ends → Type 0
AreFound names ops found = found ≡ map (ends_in names) ops

-- what is found where nobody looked
abbrev pub unknown_ends : Ends
unknown_ends = record { source = None; target = None }

-- what was found of an operation's ends before some names came: each number is the one that the names give the end
abbrev pub WasFound : List (List ℕ) → NamedOp → Ends → Type 0
WasFound names op found = IfSome found.source (λ s. (ends_in names op).source ≡ Some s)
    × IfSome found.target (λ t. (ends_in names op).target ≡ Some t)

-- what was found so of the first of these operations, or of all
abbrev pub WereFound : List (List ℕ) → List NamedOp → List Ends → Type 0
WereFound names (op ∷ ops) (ends ∷ found) = WasFound names op ends × WereFound names ops found
WereFound names _ _ = Unit {0}

-- the number of an operation's kind, by these kinds
abbrev pub kind_by : List (List ℕ) → Parts → Option ℕ
kind_by kinds (OfEdge change kind source target) = known kinds kind
kind_by kinds (OfAll time) = None

-- a kind that was seen has its number
abbrev pub IsSeen : List (List ℕ) → Option SeenKind → Type 0
IsSeen kinds seen = IfSome seen (λ k. known kinds k.text.now ≡ Some k.number.0)

-- the names behind an edge, and the kinds behind it: with those of its ends, and with its kind, where its change makes names
abbrev pub ends_made : Bool → List ℕ → List ℕ → List (List ℕ) → List (List ℕ)
ends_made makes source target names = if makes then with_name (with_name names source) target else names

abbrev pub kind_made : Bool → List ℕ → List (List ℕ) → List (List ℕ)
kind_made makes kind kinds = if makes then with_name kinds kind else kinds

-- the key of three numbers, if all of them are known
abbrev pub key_from : Option ℕ → Option ℕ → Option ℕ → Option Key
key_from (Some kind) (Some source) (Some target) = Some (record { kind = kind; source = source; target = target })
key_from _ _ _ = None

-- an operation with these ends, by these kinds
abbrev pub with_kind : List (List ℕ) → Ends → Parts → Resolved
with_kind kinds ends (OfEdge change kind source target) =
    AtKey ends.source (key_from (known kinds kind) ends.source ends.target) change
with_kind kinds ends (OfAll time) = InAll time

-- the key and the operation that the program's values show
abbrev pub key_shown : EdgeKey → Key
key_shown k = record { kind = k.kind.0; source = k.source; target = k.target }

abbrev pub shown_op : ResolvedOp → Resolved
shown_op (Edge source key change) = AtKey source (option_map key_shown key) change
shown_op (Expire time) = InAll time

-- an operation on an edge has a weight and a time in range
abbrev pub IsInRange : ResolvedOp → Type 0
IsInRange (Edge source key change) = IsChange change
IsInRange (Expire time) = Unit {0}

abbrev pub with_names : Book → List (List ℕ) → Book
with_names book names = record book { names = names }

-- a book is within its limit
abbrev pub Fits : Book → Type 0
Fits book = length book.names ≤ book.limit

-- the refusal of names that would be more than the limit; out of memory may come at any time
abbrev pub IsRefusal : AddError → Book → List (List ℕ) → Type 0
IsRefusal NamesFull book names = book.limit < length names
IsRefusal OutOfMemory book names = Unit {0}

-- the graph of which books have the names and the kinds, with their limits and no edges
abbrev pub graph_named : Book → Book → Graph
graph_named names kinds =
    record empty_graph {
      names = names.names;
      kinds = kinds.names;
      limits = record standard_limits { names = names.limit; kinds = kinds.limit };
    }

-- when a batch is not planned
abbrev pub IsUnplanned : ApplyError → List NamedOp → Book → Book → Type 0
IsUnplanned error ops names kinds = IsLimitRefusal error ops (graph_named names kinds)
