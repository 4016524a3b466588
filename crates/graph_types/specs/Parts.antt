-- An operation by its parts: what it does to its edge and the names of the edge, or the time of an expiry.
use Rattle.std.specs.Prelude.{ℕ, List, [], ◌∷◌}
use Rattle.graph_types.specs.{Limits.weight_limit, Step.{names_made, kinds_made}, declared.batches.NamedOp.{NamedOp, TheVariants.{Insert, Incr}}}
use Rattle.graph_types.specs.declared.{batches.NamedOp.TheVariants.{Remove, Expire}, changes.EdgeChange.EdgeChange}
use Rattle.graph_types.specs.declared.changes.EdgeChange.TheVariants.{Insert as ToInsert, Incr as ToIncr, Remove as ToRemove}
use Rattle.graph_types.specs.declared.parts.OpParts.{OpParts, TheVariants.{OfEdge as EdgeParts, OfAll as AllParts}}

-- an operation on one edge, with what it does to the edge at its key, and the names of its kind, source and target; or the
-- expiry of all edges that were last touched before a time
pub data Parts : Type 0 where
  OfEdge : (change : EdgeChange) (kind source target : List ℕ) → Parts
  OfAll : (time : ℕ) → Parts

-- under this limit of weights and under the standard one
abbrev pub parts_in : ℕ → NamedOp → Parts
parts_in most (Insert kind source target weight time) = OfEdge (ToInsert weight time most) kind source target
parts_in most (Incr kind source target amount time) = OfEdge (ToIncr amount time most) kind source target
parts_in most (Remove kind source target) = OfEdge ToRemove kind source target
parts_in most (Expire time) = OfAll time

abbrev pub parts_of : NamedOp → Parts
parts_of op = parts_in weight_limit op

-- the parts that the program's value shows
abbrev pub shown_parts : OpParts → Parts
shown_parts (EdgeParts change kind source target) = OfEdge change kind.now source.now target.now
shown_parts (AllParts time) = OfAll time

-- the names and the kinds that an operation leaves, whatever the limit
abbrev pub names_by : Parts → List (List ℕ) → List (List ℕ)
names_by (OfEdge change kind source target) names = names_made change source target names
names_by (OfAll time) names = names

abbrev pub kinds_by : Parts → List (List ℕ) → List (List ℕ)
kinds_by (OfEdge change kind source target) kinds = kinds_made change kind kinds
kinds_by (OfAll time) kinds = kinds

abbrev pub names_after : NamedOp → List (List ℕ) → List (List ℕ)
names_after op names = names_by (parts_of op) names

abbrev pub kinds_after : NamedOp → List (List ℕ) → List (List ℕ)
kinds_after op kinds = kinds_by (parts_of op) kinds

-- and those that operations leave, one after another
abbrev pub names_after_all : List NamedOp → List (List ℕ) → List (List ℕ)
names_after_all [] names = names
names_after_all (op ∷ ops) names = names_after_all ops (names_after op names)

abbrev pub kinds_after_all : List NamedOp → List (List ℕ) → List (List ℕ)
kinds_after_all [] kinds = kinds
kinds_after_all (op ∷ ops) kinds = kinds_after_all ops (kinds_after op kinds)
