-- What a row is refused for, as it is told.
use Rattle.std.proofs.Common.{◌≡◌, ◌<◌, ◌∙◌, ℕ, ℤ, pos, Bool, true, false, cond, not, List, Option, Some, None, refl, sym, ap}
use Rattle.std.proofs.lemmas.Bool.{le-ltb}
use Rattle.std.specs.Prelude.{nat_lt, nat_le, slice_index_or, option_map, length}
use Rattle.graph_types.specs.{Limits.{LimitsView}, Step.{after_all, empty_graph_in}, Valid.{has_names, has_weight, has_time, push_refusal_within}}
use Rattle.graph_types.specs.declared.batches.{NamedOp.NamedOp, PushError.PushError}
use Rattle.graph_types.specs.declared.batches.PushError.TheVariants.{BatchFull}
use Rattle.vertex_names.specs.Book.{Book}
use Rattle.batch_columns.specs.{Dictionaries.name_in, Operations.{OperationTable, edge_operation_at, named_operation}}
use Rattle.batch_columns.specs.declared.columns.InsertError.{InsertError, TheVariants.{BadNumber, Refused}}
use Rattle.opening_columns.specs.{Puts.put_at, declared.numbering.Unnumbered.Unnumbered}
use Rattle.opening_columns.specs.Numbers.{AreTaken, IsValidRow, RefusesAt, RefusesNumbers, RefusesRows, ReportsRow, book_of, full_error, refusal_of, row_refusal, values_refusal}
use Rattle.opening_columns.specs.declared.numbering.Unnumbered.TheVariants as rows
use Rattle.opening_columns.specs.declared.errors.OpenColumnsError.{OpenColumnsError}
use Rattle.opening_columns.specs.declared.errors.OpenColumnsError.TheVariants as told
use Rattle.opening_columns.proofs.RowParts.{op_of, put_by, is_insertion}

-- another sort
pub other_sort : (t : OperationTable) (place : ℕ) → 1 < slice_index_or t.sorts place 0 → Some BadNumber ≡ row_refusal t place
other_sort t place more =
    sym (ap (λ (b : Bool). refusal_of (cond b (edge_operation_at t place) None)) (le-ltb (slice_index_or t.sorts place 0) 2 (omega Rattle.std.proofs.Common.arith)))

same : (b : Bool) → cond b (let o : Option NamedOp = None in o) None ≡ None
same true = refl
same false = refl

abbrev row_by : OperationTable → ℕ → Option (List ℕ) → Option (List ℕ) → Option (List ℕ) → Option InsertError
row_by t place k s g =
    refusal_of (cond (nat_lt (slice_index_or t.sorts place 0) 2)
    (named_operation (slice_index_or t.sorts place 0) k s g (slice_index_or t.weights place (pos 0)) (slice_index_or t.times place 0)) None)

-- no such name
pub no_kind_name : (t : OperationTable) (place : ℕ) → name_in t.kind_text t.kind_ends (slice_index_or t.kinds place 0) ≡ None
    → Some BadNumber ≡ row_refusal t place
no_kind_name t place none =
    sym (ap (λ (o : Option (List ℕ)). row_by t place o (name_in t.text t.ends (slice_index_or t.sources place 0))
    (name_in t.text t.ends (slice_index_or t.targets place 0))) none
    ∙ ap refusal_of (same (nat_lt (slice_index_or t.sorts place 0) 2)))

pub no_source_name : (t : OperationTable) (place : ℕ) (k : List ℕ)
    → name_in t.kind_text t.kind_ends (slice_index_or t.kinds place 0) ≡ Some k
    → name_in t.text t.ends (slice_index_or t.sources place 0) ≡ None → Some BadNumber ≡ row_refusal t place
no_source_name t place k kind none =
    sym ((λ i. row_by t place (kind i) (none i) (name_in t.text t.ends (slice_index_or t.targets place 0)))
    ∙ ap refusal_of (same (nat_lt (slice_index_or t.sorts place 0) 2)))

pub no_target_name : (t : OperationTable) (place : ℕ) (k s : List ℕ)
    → name_in t.kind_text t.kind_ends (slice_index_or t.kinds place 0) ≡ Some k
    → name_in t.text t.ends (slice_index_or t.sources place 0) ≡ Some s
    → name_in t.text t.ends (slice_index_or t.targets place 0) ≡ None → Some BadNumber ≡ row_refusal t place
no_target_name t place k s kind source none =
    sym ((λ i. row_by t place (kind i) (source i) (none i))
    ∙ ap refusal_of (same (nat_lt (slice_index_or t.sorts place 0) 2)))

-- a row of a sort below 2, with three names
values_are : (b : Bool) (k s g : List ℕ) (w : ℤ) (time : ℕ) → push_refusal_within 1 (op_of b k s g w time) 0 ≡ values_refusal k s g w time
values_are true k s g w time = refl
values_are false k s g w time = refl

pub by_values : (t : OperationTable) (place : ℕ) (k s g : List ℕ) → nat_lt (slice_index_or t.sorts place 0) 2 ≡ true
    → name_in t.kind_text t.kind_ends (slice_index_or t.kinds place 0) ≡ Some k
    → name_in t.text t.ends (slice_index_or t.sources place 0) ≡ Some s
    → name_in t.text t.ends (slice_index_or t.targets place 0) ≡ Some g
    → option_map Refused (values_refusal k s g (slice_index_or t.weights place (pos 0)) (slice_index_or t.times place 0)) ≡ row_refusal t place
by_values t place k s g below kind source target =
    sym (ap refusal_of (put_by t place k s g below kind source target)
    ∙ ap (option_map Refused) (values_are (is_insertion t place) k s g (slice_index_or t.weights place (pos 0)) (slice_index_or t.times place 0)))

-- a row that is refused for nothing is a valid operation
all_hold : (a b c : Bool) (x y z : PushError)
    → cond (not a) (Some x) (cond (not b) (Some y) (cond (not c) (Some z) (cond (nat_le 1 0) (Some BatchFull) None))) ≡ None
    → (a ≡ true) × (b ≡ true) × (c ≡ true)
all_hold true true true x y z is = (refl, refl, refl)
all_hold true true false x y z is = cc
all_hold true false c x y z is = cc
all_hold false b c x y z is = cc

none_inside : (o : Option PushError) → option_map Refused o ≡ None → o ≡ None
none_inside None is = refl
none_inside (Some error) is = cc

valid_by : (t : OperationTable) (place : ℕ) (o : Option NamedOp) → put_at t place ≡ o → refusal_of o ≡ None
    → (op : NamedOp) × IsValidRow t place op
valid_by t place None at none = cc
valid_by t place (Some op) at none =
    let holds = all_hold (has_names op) (has_weight op) (has_time op) _ _ _ (none_inside (push_refusal_within 1 op 0) none) in
    (op, record { op_is = at; valid = record { names = holds.0; weight = holds.1; time = holds.2 } })

pub valid_row : (t : OperationTable) (place : ℕ) → row_refusal t place ≡ None → (op : NamedOp) × IsValidRow t place op
valid_row t place none = valid_by t place (put_at t place) refl none

-- and so its names or kinds are too many
pub tells_full : (t : OperationTable) (place : ℕ) (names kinds : Book) (why : Unnumbered) → row_refusal t place ≡ None
    → (why ≡ rows.OutOfMemory → ⊥) → RefusesNumbers t place names kinds why → ReportsRow t place names kinds (full_error why)
tells_full t place names kinds rows.Bad none known refuses =
    let (op, is) = valid_row t place none in absurd (refuses op is.op_is is.valid)
tells_full t place names kinds rows.NamesFull none known refuses =
    let (op, is) = valid_row t place none in (op, is, refuses op is.op_is is.valid)
tells_full t place names kinds rows.KindsFull none known refuses =
    let (op, is) = valid_row t place none in
    let both = refuses op is.op_is is.valid in
    (op, is, both.0, both.1)
tells_full t place names kinds rows.OutOfMemory none known refuses = absurd (known refl)

-- the first row that isn't taken
abbrev Books : LimitsView → OperationTable → ℕ → List NamedOp → OpenColumnsError → Type 0
Books limits t place ops error =
    ReportsRow t place (book_of limits.names (after_all ops (empty_graph_in limits)).names)
    (book_of limits.kinds (after_all ops (empty_graph_in limits)).kinds) error

untaken : (limits : LimitsView) (t : OperationTable) (place : ℕ) (error : OpenColumnsError) (ops : List NamedOp)
    → AreTaken limits t place ops → place < length t.sorts → Books limits t place ops error → RefusesRows limits t place error
untaken limits t place (told.BadOperation error) ops taken lt tells =
    record { ops = ops; taken = taken; within = lt; told = tells }
untaken limits t place told.NamesFull ops taken lt tells = record { ops = ops; taken = taken; within = lt; told = tells }
untaken limits t place told.KindsFull ops taken lt tells = record { ops = ops; taken = taken; within = lt; told = tells }
untaken limits t place told.BadLength ops taken lt tells = absurd tells
untaken limits t place (told.PoolEmpty needed free) ops taken lt tells = absurd tells
untaken limits t place told.OutOfMemory ops taken lt tells = absurd tells

pub told_first : (limits : LimitsView) (t : OperationTable) (place : ℕ) (why : Unnumbered) (error : OpenColumnsError)
    → (why ≡ rows.OutOfMemory → ⊥)
    → ((names kinds : Book) → RefusesNumbers t place names kinds why → ReportsRow t place names kinds error)
    → RefusesAt limits t place why → RefusesRows limits t place error
told_first limits t place rows.Bad error known tells (ops, taken, behind) =
    untaken limits t place error ops taken behind.0 (tells _ _ behind.1)
told_first limits t place rows.NamesFull error known tells (ops, taken, behind) =
    untaken limits t place error ops taken behind.0 (tells _ _ behind.1)
told_first limits t place rows.KindsFull error known tells (ops, taken, behind) =
    untaken limits t place error ops taken behind.0 (tells _ _ behind.1)
told_first limits t place rows.OutOfMemory error known tells at = absurd (known refl)
