-- What names keep as more appear.
use Rattle.std.proofs.Common.{drop, ◌≡◌, ℕ, ◌+◌, ◌<◌, ◌≤◌, List, ◌∷◌, length}
use Rattle.std.proofs.Common.{IsTrue, Option, Some, None, sym, ap, arith, if◌then◌else◌}
use Rattle.std.proofs.lemmas.Grind.{common_steps}
use Rattle.graph_types.specs.{Step.{with_name, number_of}, Answer.is_listed, declared.batches.NamedOp.NamedOp}
use Rattle.graph_types.{specs.Parts.{names_after, names_after_all, kinds_after_all}, proofs.OperationParts.no_fewer_all}
use Rattle.graph_types.{specs.declared.refusals.ApplyError.TheVariants.{NamesFull, KindsFull}, proofs.OperationParts.{names_of_all, kinds_of_all}}
use Rattle.graph_types.proofs.ListedNames.{kept, entered}
use Rattle.vertex_names.specs.{Book.Book, declared.book.AddError.AddError}
use Rattle.batch_apply.specs.{declared.resolve.Ends.Ends, Plan.{known, graph_named, IsRefusal, IsUnplanned}}

pub known_listed : (names : List (List ℕ)) (name : List ℕ) → IsTrue (is_listed names name)
    → Some (number_of names name) ≡ known names name
known_listed names name listed = ap (λ b. if b then Some (number_of names name) else None) (sym listed)

-- both ends' numbers, once both have appeared
pub source_known : (names : List (List ℕ)) (source target : List ℕ)
    → Some (number_of (with_name names source) source) ≡ known (with_name (with_name names source) target) source
source_known names source target = grind (arith, common_steps, kept, entered, known_listed)

pub target_known : (names : List (List ℕ)) (target : List ℕ)
    → Some (number_of (with_name names target) target) ≡ known (with_name names target) target
target_known names target = known_listed (with_name names target) target (entered names target)

-- a refusal of one operation is one of them all
pub refused_all : (error : AddError) (old book : Book) (ops : List NamedOp) (k : ℕ) (op : NamedOp) → drop k ops ≡ op
    ∷ drop (k + 1) ops → names_after_all (drop k ops) book.names ≡ names_after_all ops old.names → book.limit ≡ old.limit
    → IsRefusal error book (names_after op book.names) → IsRefusal error old (names_after_all ops old.names)
refused_all error old book ops k op step same limit refused = grind (arith, common_steps, no_fewer_all)

-- a refusal of a book is one of the batch, for the names, or for the kinds where the names fit
pub unplanned_names : (ops : List NamedOp) (names kinds : Book) → names.limit < length (names_after_all ops names.names)
    → IsUnplanned NamesFull ops names kinds
unplanned_names ops names kinds full = omega (arith, full, ap length (names_of_all ops (graph_named names kinds)))

pub unplanned_kinds : (ops : List NamedOp) (names kinds : Book) → kinds.limit < length (kinds_after_all ops kinds.names)
    → length (names_after_all ops names.names) ≤ names.limit → IsUnplanned KindsFull ops names kinds
unplanned_kinds ops names kinds full fit = (
  omega (arith, full, ap length (kinds_of_all ops (graph_named names kinds))),
  λ past. let same = ap length (names_of_all ops (graph_named names kinds)) in omega arith,
)

-- and so is one of its names
pub names_refused : (error : AddError) (op : NamedOp) (behind : List NamedOp) (names : Book)
    → IsRefusal error names (names_after op names.names) → IsRefusal error names (names_after_all (op ∷ behind) names.names)
names_refused error op behind names refused = grind (arith, common_steps, no_fewer_all)

pub same_ends : (a b c d : Option ℕ) → a ≡ c → b ≡ d → (let e : Ends = record { source = a; target = b } in e)
    ≡ (let e : Ends = record { source = c; target = d } in e)
same_ends a b c d p q = grind (arith, common_steps)
