-- What was found of the ends of operations, as more names appear.
use Rattle.std.proofs.Common.{◌≡◌, ◌∙◌, ℕ, ◌+◌, Bool, true, false, if◌then◌else◌, IsTrue, List, [], ◌∷◌, map, drop, refl}
use Rattle.std.proofs.Common.{sym, ap, Option, Some, None, subst, length, get_or, zero, suc, ◌<◌, ◌≤◌, arith}
use Rattle.std.{specs.Option.IfSome, proofs.lemmas.Option.IfSome_then}
use Rattle.graph_types.specs.{Step.{with_name, makes_names, number_of}, Answer.is_listed, declared.batches.NamedOp.NamedOp}
use Rattle.graph_types.specs.Parts.{Parts, OfEdge, OfAll, parts_of, names_by, names_after}
use Rattle.batch_apply.specs.{declared.resolve.Ends.Ends, Plan.{known, ends_by, ends_in, unknown_ends, AreFound, WasFound, WereFound}}
use Rattle.std.proofs.lemmas.List.{drop-drop}
use Rattle.graph_types.proofs.{ListedNames.kept, NameLists.number_of-lt}
use Rattle.vertex_names.specs.Book.{Book}
use Rattle.batch_apply.proofs.Names.{known_listed}

listed_if : (b : Bool) (n i : ℕ) → (if b then Some n else None) ≡ Some i → IsTrue b
listed_if true n i is = refl
listed_if false n i is = cc

-- a known name is listed
is_listed_known : (names : List (List ℕ)) (name : List ℕ) (i : ℕ) → known names name ≡ Some i → IsTrue (is_listed names name)
is_listed_known names name i is = listed_if (is_listed names name) (number_of names name) i is

-- a known name keeps its number as another appears
pub known_next : (names : List (List ℕ)) (other name : List ℕ) (i : ℕ) → known names name ≡ Some i
    → known (with_name names other) name ≡ Some i
known_next names other name i is =
    let listed = is_listed_known names name i is in
    let held = kept names other name listed in
    sym (known_listed (with_name names other) name held.0) ∙ ap Some held.1 ∙ known_listed names name listed ∙ is

made_if : (b : Bool) (names : List (List ℕ)) (source target name : List ℕ) (i : ℕ) → known names name ≡ Some i
    → known (if b then with_name (with_name names source) target else names) name ≡ Some i
made_if true names source target name i is =
    known_next (with_name names source) target name i (known_next names source name i is)
made_if false names source target name i is = is

pub known_by : (done : Parts) (names : List (List ℕ)) (name : List ℕ) (i : ℕ) → known names name ≡ Some i
    → known (names_by done names) name ≡ Some i
known_by (OfEdge change kind source target) names name i is = made_if (makes_names change) names source target name i is
known_by (OfAll time) names name i is = is

source_later : (names : List (List ℕ)) (done op : Parts) (found : Option ℕ)
    → IfSome found (λ s. (ends_by names op).source ≡ Some s)
    → IfSome found (λ s. (ends_by (names_by done names) op).source ≡ Some s)
source_later names done (OfEdge change kind source target) found is = IfSome_then found is (known_by done names source)
source_later names done (OfAll time) found is = is

target_later : (names : List (List ℕ)) (done op : Parts) (found : Option ℕ)
    → IfSome found (λ t. (ends_by names op).target ≡ Some t)
    → IfSome found (λ t. (ends_by (names_by done names) op).target ≡ Some t)
target_later names done (OfEdge change kind source target) found is = IfSome_then found is (known_by done names target)
target_later names done (OfAll time) found is = is

-- what was found stays so behind an operation
pub all_later : (names : List (List ℕ)) (done : NamedOp) (ops : List NamedOp) (found : List Ends) → WereFound names ops found
    → WereFound (names_after done names) ops found
all_later names done [] found are = tt
all_later names done (op ∷ ops) [] are = tt
all_later names done (op ∷ ops) (ends ∷ found) are = (
  (
    source_later names (parts_of done) (parts_of op) ends.source are.0.0,
    target_later names (parts_of done) (parts_of op) ends.target are.0.1,
  ),
  all_later names done ops found are.1,
)

-- nothing found is right, and so is what the names themselves give
pub nothing_found : (names : List (List ℕ)) (ops : List NamedOp) → WereFound names ops []
nothing_found names [] = tt
nothing_found names (op ∷ ops) = tt

pub itself : (o : Option ℕ) → IfSome o (λ n. o ≡ Some n)
itself (Some n) = refl
itself None = tt

each_one : (names : List (List ℕ)) (op : NamedOp) → WasFound names op (ends_in names op)
each_one names op = (itself (ends_in names op).source, itself (ends_in names op).target)

each_found : (names : List (List ℕ)) (ops : List NamedOp) → WereFound names ops (map (ends_in names) ops)
each_found names [] = tt
each_found names (op ∷ ops) = (each_one names op, each_found names ops)

-- so what so many workers look up is right
pub looked_up : (workers : ℕ) (names : List (List ℕ)) (ops : List NamedOp) (found : List Ends)
    → (2 ≤ workers → AreFound names ops found) → (workers < 2 → found ≡ []) → WereFound names ops found
looked_up zero names ops found many alone =
    subst (λ l. WereFound names ops l) (sym (alone (omega arith))) (nothing_found names ops)
looked_up (suc zero) names ops found many alone =
    subst (λ l. WereFound names ops l) (sym (alone (omega arith))) (nothing_found names ops)
looked_up (suc (suc n)) names ops found many alone =
    subst (λ l. WereFound names ops l) (sym (many (omega arith))) (each_found names ops)

-- what was found at a place, of the first of the operations from there on; and of those past it
pub first_found : (names : List (List ℕ)) (op : NamedOp) (ops : List NamedOp) (found : List Ends) (k : ℕ)
    → WereFound names (op ∷ ops) (drop k found) → WasFound names op (get_or found k unknown_ends)
first_found names op ops [] zero are = (tt, tt)
first_found names op ops [] (suc k) are = (tt, tt)
first_found names op ops (ends ∷ found) zero are = are.0
first_found names op ops (ends ∷ found) (suc k) are = first_found names op ops found k are

tail_found : (names : List (List ℕ)) (op : NamedOp) (ops : List NamedOp) (front : List Ends) → WereFound names (op ∷ ops) front
    → WereFound names ops (drop 1 front)
tail_found names op ops [] are = nothing_found names ops
tail_found names op ops (ends ∷ front) are = are.1

pub rest_found : (names : List (List ℕ)) (op : NamedOp) (ops : List NamedOp) (found : List Ends) (k : ℕ)
    → WereFound names (op ∷ ops) (drop k found) → WereFound names ops (drop (k + 1) found)
rest_found names op ops found k are =
    subst (λ l. WereFound names ops l) (drop-drop 1 k found) (tail_found names op ops (drop k found) are)

-- a kind's number is small, if the kinds are few
few_listed : (kinds : Book) (kind : List ℕ) (b : Bool) → b ≡ is_listed kinds.names kind → length kinds.names ≤ kinds.limit
    → kinds.limit ≤ 64 → IfSome (if b then Some (number_of kinds.names kind) else None) (λ n. n < 256)
few_listed kinds kind true is within few = omega (arith, within, few, number_of-lt kinds.names kind (sym is))
few_listed kinds kind false is within few = tt

pub few_known : (kinds : Book) (kind : List ℕ) (number : Option ℕ) → number ≡ known kinds.names kind
    → length kinds.names ≤ kinds.limit → kinds.limit ≤ 64 → IfSome number (λ n. n < 256)
few_known kinds kind number is within few =
    subst (λ o. IfSome o (λ n. n < 256)) (sym is) (few_listed kinds kind (is_listed kinds.names kind) refl within few)
