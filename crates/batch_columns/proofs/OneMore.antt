-- One operation more of columns.
use Rattle.std.proofs.Common.{◌≡◌, ◌≤◌, ℕ, zero, suc, ◌+◌, ◌-◌, List, [], ◌∷◌, ◌++◌, length, Option, Some, None, refl, sym, ap, ◌∙◌, arith}
use Rattle.std.proofs.Common.{length-append, append_assoc, add-one, take}
use Rattle.std.proofs.lemmas.List.{take_at}
use Rattle.std.specs.Prelude.{Ok}
use Rattle.graph_types.specs.declared.batches.NamedOp.{NamedOp}
use Rattle.graph_types.specs.Limits.{most_operations}
use Rattle.batch_columns.specs.{Dictionaries.{joined_operations, in_order, IsInserted}, Operations.{OperationTable, operation_at, operations_from}}

-- the parts of a list that is joined
pub joined_parts : (op : Option NamedOp) (rest : Option (List NamedOp)) (all : List NamedOp) → joined_operations op rest ≡ Some all
    → (one : NamedOp) × (others : List NamedOp) × (op ≡ Some one) × (rest ≡ Some others) × (all ≡ one ∷ others)
joined_parts (Some one) (Some others) all is = (one, others, refl, refl, cc)
joined_parts (Some one) None all is = cc
joined_parts None rest all is = cc

pub one_more : (op_at : ℕ → Option NamedOp) (at n : ℕ) (ops : List NamedOp) (op : NamedOp) → in_order op_at at n ≡ Some ops
    → op_at (at + n) ≡ Some op → in_order op_at at (suc n) ≡ Some (ops ++ op ∷ [])
one_more op_at at zero ops op are is =
    let none : ops ≡ [] = cc in
    rw none (ap (λ o. joined_operations o (Some [])) (ap op_at (omega arith) ∙ is))
one_more op_at at (suc n) ops op are is =
    let parts = joined_parts (op_at at) (in_order op_at (at + 1) n) ops are in
    let place : at + 1 + n ≡ at + suc n = omega arith in
    let rest = one_more op_at (at + 1) n parts.1 op parts.3 (ap op_at place ∙ is) in
    rw parts.4 (ap (λ o. joined_operations o (in_order op_at (at + 1) (suc n))) parts.2 ∙ ap (joined_operations (Some parts.0)) rest)

-- what an operation that is in was
pub inserted_op : (limit : ℕ) (o : Option NamedOp) (old new : List NamedOp) (done : Unit {0}) → IsInserted limit o old new (Ok done)
    → (op : NamedOp) × (o ≡ Some op) × (new ≡ old ++ op ∷ [])
inserted_op limit None old new done is = cc is.0
inserted_op limit (Some op) old new done is = (op, refl, is.1)

-- a batch, and the operations of so many places behind it
abbrev pub Extends : OperationTable → ℕ → ℕ → List NamedOp → List NamedOp → Type 0
Extends t from n old new = (ops : List NamedOp) × (operations_from t from n ≡ Some ops) × (new ≡ old ++ ops)

-- and what the batch had stays in front
pub own_stay : (t : OperationTable) (from n : ℕ) (old new : List NamedOp) → Extends t from n old new → take (length old) new ≡ old
own_stay t from n old new (ops, are, is) = ap (take (length old)) is ∙ take_at old ops (length old) refl

-- each place has one operation
pub one_longer : (limit : ℕ) (o : Option NamedOp) (old new : List NamedOp) (done : Unit {0}) → IsInserted limit o old new (Ok done)
    → length new ≡ length old + 1
one_longer limit o old new done pushed =
    let (op, here, is) = inserted_op limit o old new done pushed in rw is (length-append old (op ∷ []))

pub extended_more : (limit : ℕ) (t : OperationTable) (from place : ℕ) (old longer new : List NamedOp) (done : Unit {0}) → from ≤ place
    → Extends t from (place - from) old longer → IsInserted limit (operation_at t place) longer new (Ok done)
    → Extends t from (place + 1 - from) old new
extended_more limit t from place old longer new done order (ops, are, is) pushed =
    let (op, here, longer_is) = inserted_op limit (operation_at t place) longer new done pushed in
    let at : from + (place - from) ≡ place = omega arith in
    let more = one_more (operation_at t) from (place - from) ops op are (ap (operation_at t) at ∙ here) in
    let n : suc (place - from) ≡ place + 1 - from = omega arith in
    (ops ++ op ∷ [], ap (operations_from t from) (sym n) ∙ more, longer_is ∙ ap (λ l. l ++ op ∷ []) is ∙ append_assoc old ops (op ∷ []))

pub inserted_more : (op_at : ℕ → Option NamedOp) (from place : ℕ) (old new : List NamedOp) (done : Unit {0})
    → place ≡ from + length old → in_order op_at from (length old) ≡ Some old → IsInserted most_operations (op_at place) old new (Ok done)
    → in_order op_at from (length new) ≡ Some new
inserted_more op_at from place old new done at fit pushed =
    let (op, here, is) = inserted_op most_operations (op_at place) old new done pushed in
    let longer : length new ≡ suc (length old) = one_longer most_operations (op_at place) old new done pushed ∙ add-one (length old) in
    let there : op_at (from + length old) ≡ Some op = ap op_at (sym at) ∙ here in
    ap (in_order op_at from) longer ∙ (one_more op_at from (length old) old op fit there ∙ ap Some (sym is))
