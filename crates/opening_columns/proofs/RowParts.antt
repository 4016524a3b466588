-- The parts of a row that is an operation.
use Rattle.std.proofs.Common.{◌≡◌, ◌∙◌, ℕ, ℤ, zero, suc, pos, Bool, true, false, cond, ◌&&◌, ◌==◌, List, Option, Some, None, refl, sym, ap, arith, IsTrue, true≢false, if◌then◌else◌}
use Rattle.std.proofs.lemmas.{Bool.{and_parts, and_from, ltb-true}}
use Rattle.std.specs.Prelude.{nat_lt, slice_index_or}
use Rattle.graph_types.specs.{Graph.Graph, Limits.{is_weight, is_time}, Step.{after, changed}}
use Rattle.graph_types.specs.{Parts.{names_after, kinds_after}, Step.with_name, Valid.{is_name, is_kind_name, are_names, IsValid}}
use Rattle.graph_types.specs.declared.{batches.NamedOp.NamedOp, changes.EdgeChange.EdgeChange}
use Rattle.graph_types.specs.declared.batches.NamedOp.TheVariants.{Insert, Incr}
use Rattle.graph_types.specs.declared.changes.EdgeChange.TheVariants.{Insert as ToInsert, Incr as ToIncr}
use Rattle.batch_columns.specs.{Dictionaries.name_in, Operations.{OperationTable, edge_operation, named_operation}}
use Rattle.opening_columns.specs.{Puts.{put_at, row_change}, Numbers.{may_name, if_named, entry_name, is_sound}}

-- what a row does, by whether it is an insertion
abbrev pub op_of : Bool → List ℕ → List ℕ → List ℕ → ℤ → ℕ → NamedOp
op_of b k s g w time = if b then Insert k s g w time else Incr k s g w time

abbrev pub change_of : Bool → ℤ → ℕ → ℕ → EdgeChange
change_of b w time most = if b then ToInsert w time most else ToIncr w time most

abbrev pub is_insertion : OperationTable → ℕ → Bool
is_insertion t place = slice_index_or t.sorts place 0 == 0

is_op : (sort : ℕ) (k s g : List ℕ) (w : ℤ) (time : ℕ) → nat_lt sort 2 ≡ true
    → edge_operation sort k s g w time ≡ Some (op_of (sort == 0) k s g w time)
is_op zero k s g w time lt = refl
is_op (suc zero) k s g w time lt = refl
is_op (suc (suc n)) k s g w time lt = (let less = ltb-true (suc (suc n)) 2 lt in absurd (omega arith))

pub change_is : (t : OperationTable) (most place : ℕ)
    → change_of (is_insertion t place) (slice_index_or t.weights place (pos 0)) (slice_index_or t.times place 0) most
    ≡ row_change t most place
change_is t most place = refl

pub after_op : (b : Bool) (k s g : List ℕ) (w : ℤ) (time : ℕ) (h : Graph)
    → after (op_of b k s g w time) h ≡ changed (change_of b w time h.limits.weight) k s g h
after_op true k s g w time h = refl
after_op false k s g w time h = refl

pub names_of_op : (b : Bool) (k s g : List ℕ) (w : ℤ) (time : ℕ) (names : List (List ℕ))
    → names_after (op_of b k s g w time) names ≡ with_name (with_name names s) g
names_of_op true k s g w time names = refl
names_of_op false k s g w time names = refl

pub kinds_of_op : (b : Bool) (k s g : List ℕ) (w : ℤ) (time : ℕ) (kinds : List (List ℕ))
    → kinds_after (op_of b k s g w time) kinds ≡ with_name kinds k
kinds_of_op true k s g w time kinds = refl
kinds_of_op false k s g w time kinds = refl

-- what makes it valid
pub record AreSound (k s g : List ℕ) (w : ℤ) (time : ℕ) : Type 0 where
  pub kind : IsTrue (is_kind_name k)
  pub source : IsTrue (is_name s)
  pub target : IsTrue (is_name g)
  pub weight : IsTrue (is_weight w)
  pub time_is : IsTrue (is_time time)

pub valid_op : (b : Bool) (k s g : List ℕ) (w : ℤ) (time : ℕ) → AreSound k s g w time → IsValid (op_of b k s g w time)
valid_op b k s g w time is = by b where
  names : IsTrue (are_names k s g)
  names = and_from (is_kind_name k && is_name s) (is_name g) (and_from (is_kind_name k) (is_name s) is.kind is.source) is.target

  by : (t : Bool) → IsValid (op_of t k s g w time)
  by true = record { names = names; weight = is.weight; time = is.time_is }
  by false = record { names = names; weight = is.weight; time = is.time_is }

sound_by : (k s g : List ℕ) (w : ℤ) (time : ℕ) → IsTrue (are_names k s g) → IsTrue (is_weight w) → IsTrue (is_time time)
    → AreSound k s g w time
sound_by k s g w time names weight at =
    let (first, target) = and_parts (is_kind_name k && is_name s) (is_name g) names in
    let both = and_parts (is_kind_name k) (is_name s) first in
    record { kind = both.0; source = both.1; target = target; weight = weight; time_is = at }

pub sound_op : (b : Bool) (k s g : List ℕ) (w : ℤ) (time : ℕ) → IsValid (op_of b k s g w time) → AreSound k s g w time
sound_op true k s g w time is = sound_by k s g w time is.names is.weight is.time
sound_op false k s g w time is = sound_by k s g w time is.names is.weight is.time

-- a row that is an operation has a sort below 2, and three names
pub record ArePutParts (t : OperationTable) (place : ℕ) (op : NamedOp) : Type 0 where
  pub kind : List ℕ
  pub source : List ℕ
  pub target : List ℕ
  pub sort : nat_lt (slice_index_or t.sorts place 0) 2 ≡ true
  pub kind_is : name_in t.kind_text t.kind_ends (slice_index_or t.kinds place 0) ≡ Some kind
  pub source_is : name_in t.text t.ends (slice_index_or t.sources place 0) ≡ Some source
  pub target_is : name_in t.text t.ends (slice_index_or t.targets place 0) ≡ Some target
  pub op_is : op ≡ op_of (is_insertion t place) kind source target (slice_index_or t.weights place (pos 0)) (slice_index_or t.times place 0)

chosen : (b : Bool) (o : Option NamedOp) (op : NamedOp) → cond b o None ≡ Some op → (b ≡ true) × (o ≡ Some op)
chosen true o op is = (refl, is)
chosen false o op is = cc

named_parts : (sort : ℕ) (k s g : Option (List ℕ)) (w : ℤ) (time : ℕ) (op : NamedOp) → named_operation sort k s g w time ≡ Some op
    → (kind : List ℕ) × (source : List ℕ) × (target : List ℕ) × (k ≡ Some kind) × (s ≡ Some source) × (g ≡ Some target)
    × (edge_operation sort kind source target w time ≡ Some op)
named_parts sort (Some k) (Some s) (Some g) w time op is = (k, s, g, refl, refl, refl, is)
named_parts sort (Some k) (Some s) None w time op is = cc
named_parts sort (Some k) None g w time op is = cc
named_parts sort None s g w time op is = cc

pub put_parts : (t : OperationTable) (place : ℕ) (op : NamedOp) → put_at t place ≡ Some op → ArePutParts t place op
put_parts t place op is =
    let sort : ℕ = slice_index_or t.sorts place 0 in
    let w : ℤ = slice_index_or t.weights place (pos 0) in
    let time : ℕ = slice_index_or t.times place 0 in
    let (below, there) = chosen (nat_lt sort 2) _ op is in
    let (k, s, g, kind, source, target, made) = named_parts sort _ _ _ w time op there in
    let same : Some op ≡ Some (op_of (sort == 0) k s g w time) = sym made ∙ is_op sort k s g w time below in
    record {
      kind = k;
      source = s;
      target = g;
      sort = below;
      kind_is = kind;
      source_is = source;
      target_is = target;
      op_is = cc;
    }

pub put_by : (t : OperationTable) (place : ℕ) (k s g : List ℕ) → nat_lt (slice_index_or t.sorts place 0) 2 ≡ true
    → name_in t.kind_text t.kind_ends (slice_index_or t.kinds place 0) ≡ Some k
    → name_in t.text t.ends (slice_index_or t.sources place 0) ≡ Some s
    → name_in t.text t.ends (slice_index_or t.targets place 0) ≡ Some g
    → put_at t place
    ≡ Some (op_of (is_insertion t place) k s g (slice_index_or t.weights place (pos 0)) (slice_index_or t.times place 0))
put_by t place k s g below kind source target =
    let sort : ℕ = slice_index_or t.sorts place 0 in
    let w : ℤ = slice_index_or t.weights place (pos 0) in
    let time : ℕ = slice_index_or t.times place 0 in
    (λ i. cond (below i) (named_operation sort (kind i) (source i) (target i) w time) None) ∙ is_op sort k s g w time below

-- an entry with a name
named_if : (is_kind : Bool) (o : Option (List ℕ)) (name : List ℕ) → if_named is_kind o ≡ Some name
    → (o ≡ Some name) × (may_name is_kind name ≡ true)
named_if is_kind None name is = cc
named_if is_kind (Some x) name is = by (may_name is_kind x) refl is where
  by : (b : Bool) → may_name is_kind x ≡ b → cond b (Some x) None ≡ Some name → (Some x ≡ Some name) × (may_name is_kind name ≡ true)
  by true may is = (is, (let same : x ≡ name = cc in ap (may_name is_kind) (sym same) ∙ may))
  by false may is = cc

pub named : (is_kind : Bool) (text ends : List ℕ) (entry : ℕ) (name : List ℕ) → entry_name is_kind text ends entry ≡ Some name
    → (name_in text ends entry ≡ Some name) × (may_name is_kind name ≡ true)
named is_kind text ends entry name is = named_if is_kind (name_in text ends entry) name is

-- an entry without one names nothing
unnamed_if : (is_kind : Bool) (o : Option (List ℕ)) (name : List ℕ) → if_named is_kind o ≡ None → o ≡ Some name
    → may_name is_kind name ≡ true → ⊥
unnamed_if is_kind None name is at may = cc
unnamed_if is_kind (Some x) name is at may = by (may_name is_kind x) refl is where
  by : (b : Bool) → may_name is_kind x ≡ b → cond b (Some x) None ≡ None → ⊥
  by true is_b none = cc
  by false is_b none = (let same : x ≡ name = cc in true≢false (sym may ∙ ap (may_name is_kind) (sym same) ∙ is_b))

pub unnamed : (is_kind : Bool) (text ends : List ℕ) (entry : ℕ) (name : List ℕ) → entry_name is_kind text ends entry ≡ None
    → name_in text ends entry ≡ Some name → may_name is_kind name ≡ true → ⊥
unnamed is_kind text ends entry name is at may = unnamed_if is_kind (name_in text ends entry) name is at may

-- a row of such a weight and time
pub sound_parts : (t : OperationTable) (place : ℕ) → is_sound t place ≡ true → (nat_lt (slice_index_or t.sorts place 0) 2 ≡ true)
    × (is_weight (slice_index_or t.weights place (pos 0)) ≡ true) × (is_time (slice_index_or t.times place 0) ≡ true)
sound_parts t place is =
    let (sort, rest) = and_parts (nat_lt (slice_index_or t.sorts place 0) 2) _ is in
    let both = and_parts (is_weight (slice_index_or t.weights place (pos 0))) (is_time (slice_index_or t.times place 0)) rest in
    (sort, both.0, both.1)
