-- What is known of the ends of operations by a list of names, and noted on the way.
use Rattle.std.proofs.Common.{◌≡◌, ◌∙◌, ℕ, zero, suc, ◌+◌, Bool, true, false, ◌&&◌, if◌then◌else◌, List, [], ◌∷◌, drop, get_or, set, refl}
use Rattle.std.proofs.Common.{sym, ap, subst, Option, Some, None}
use Rattle.std.specs.{Option.IfSome, Prelude.slice_get}
use Rattle.std.proofs.lemmas.List.{drop-drop}
use Rattle.graph_types.specs.{Graph.Key, Step.{number_of, key_in}, Answer.is_listed, declared.batches.NamedOp.NamedOp}
use Rattle.graph_types.specs.declared.batches.NamedOp.TheVariants.{Insert, Incr, Remove, Expire}
use Rattle.graph_types.specs.Parts.{Parts, OfEdge, OfAll, parts_in, parts_of, names_after}
use Rattle.edge_block.specs.Batches.{Resolved, resolve_parts}
use Rattle.batch_apply.specs.{declared.resolve.Ends.Ends, Plan.{known, ends_by, unknown_ends, WasFound}}
use Rattle.batch_apply.specs.declared.listed.KnownEnds.{KnownEnds, TheVariants.{Looked, Listed}}
use Rattle.batch_apply.specs.Listed.{AreEndsAt, AreEndsListed, AreKnown, AreNoted, ends_at, found_by, with_noted, target_of, noted_ends, noted_after}
use Rattle.batch_apply.proofs.Found.{all_later, first_found, itself, known_by, rest_found}

-- nothing is noted
pub nothing_noted : (name : ℕ → List ℕ) (names : List (List ℕ)) (noted : List (Option ℕ))
    → ((place : ℕ) → get_or noted place None ≡ None) → AreNoted name names noted
nothing_noted name names noted none = λ place i is. let nothing = none place in cc

-- what is noted stays right behind an operation
noted_later : (name : ℕ → List ℕ) (names : List (List ℕ)) (op : NamedOp) (noted : List (Option ℕ)) → AreNoted name names noted
    → AreNoted name (names_after op names) noted
noted_later name names op noted are = λ place i is. known_by (parts_of op) names (name place) i (are place i is)

-- one more number is noted
one_noted : (name : ℕ → List ℕ) (names : List (List ℕ)) (noted : List (Option ℕ)) (place n at i : ℕ)
    → known names (name place) ≡ Some n → ((p j : ℕ) → get_or noted p None ≡ Some j → known names (name p) ≡ Some j)
    → get_or (set noted place (Some n)) at None ≡ Some i → known names (name at) ≡ Some i
one_noted name names [] zero n at i is are here = are at i here
one_noted name names [] (suc place) n at i is are here = are at i here
one_noted name names (x ∷ noted) zero n zero i is are here = is ∙ here
one_noted name names (x ∷ noted) zero n (suc at) i is are here = are (suc at) i here
one_noted name names (x ∷ noted) (suc place) n zero i is are here = are zero i here
one_noted name names (x ∷ noted) (suc place) n (suc at) i is are here =
    one_noted (λ p. name (suc p)) names noted place n at i is (λ p j. are (suc p) j) here

may_noted : (name : ℕ → List ℕ) (names : List (List ℕ)) (noted : List (Option ℕ)) (place : ℕ) (number : Option ℕ)
    → IfSome number (λ n. known names (name place) ≡ Some n) → AreNoted name names noted
    → AreNoted name names (with_noted noted place number)
may_noted name names noted place None is are = are
may_noted name names noted place (Some n) is are = λ at i here. one_noted name names noted place n at i is are here

-- the numbers of a resolved operation's ends
target_if : (a b c : Bool) (k : Key) (n : ℕ) → k.target ≡ n
    → IfSome (target_of (if a && (b && c) then Some k else None)) (λ m. (if c then Some n else None) ≡ Some m)
target_if true true true k n same = ap Some (sym same)
target_if true true false k n same = tt
target_if true false c k n same = tt
target_if false b c k n same = tt

parts_noted : (name : ℕ → List ℕ) (names kinds : List (List ℕ)) (p : Parts) (s t : ℕ) (noted : List (Option ℕ))
    → AreEndsAt name p s t → AreNoted name names noted
    → AreNoted name names (noted_ends (Some s) (Some t) (resolve_parts names kinds p) noted)
parts_noted name names kinds (OfEdge change kind source target) s t noted are right =
    let first : IfSome (known names source) (λ n. known names (name s) ≡ Some n) =
    subst (λ (l : List ℕ). IfSome (known names source) (λ n. known names l ≡ Some n)) are.0 (itself (known names source)) in
    let key : Key = key_in names kinds kind source target in
    let second : IfSome (target_of (if is_listed kinds kind && (is_listed names source && is_listed names target) then Some key else None))
    (λ n. known names (name t) ≡ Some n) =
    subst (λ (l : List ℕ). IfSome (target_of (if is_listed kinds kind && (is_listed names source && is_listed names target) then Some key else None))
    (λ n. known names l ≡ Some n)) are.1
    (target_if (is_listed kinds kind) (is_listed names source) (is_listed names target) key (number_of names target) refl) in
    may_noted name names (with_noted noted s (known names source)) t _ second
    (may_noted name names noted s (known names source) first right)
parts_noted name names kinds (OfAll time) s t noted are right = absurd are

ends_in_parts : (name : ℕ → List ℕ) (most : ℕ) (op : NamedOp) (s t : ℕ) → AreEndsAt name (parts_of op) s t
    → AreEndsAt name (parts_in most op) s t
ends_in_parts name most (Insert kind source target weight time) s t are = are
ends_in_parts name most (Incr kind source target amount time) s t are = are
ends_in_parts name most (Remove kind source target) s t are = are
ends_in_parts name most (Expire time) s t are = are

-- what is known of the first of the operations from a place on is right
if_some : (o : Option ℕ) (p : ℕ → Type 0) → ((n : ℕ) → o ≡ Some n → p n) → IfSome o p
if_some (Some n) p each = each n refl
if_some None p each = tt

ends_right : (name : ℕ → List ℕ) (names : List (List ℕ)) (p : Parts) (s t : ℕ) (noted : List (Option ℕ)) → AreNoted name names noted
    → AreEndsAt name p s t → IfSome (get_or noted s None) (λ n. (ends_by names p).source ≡ Some n)
    × IfSome (get_or noted t None) (λ n. (ends_by names p).target ≡ Some n)
ends_right name names (OfEdge change kind source target) s t noted right are = (
  if_some (get_or noted s None) (λ n. known names source ≡ Some n) (λ n is. ap (known names) are.0 ∙ right s n is),
  if_some (get_or noted t None) (λ n. known names target ≡ Some n) (λ n is. ap (known names) are.1 ∙ right t n is),
)
ends_right name names (OfAll time) s t noted right are = absurd are

no_target : (names : List (List ℕ)) (op : NamedOp) (noted : List (Option ℕ)) (source : Option ℕ)
    → WasFound names op (ends_at noted source None)
no_target names op noted None = (tt, tt)
no_target names op noted (Some s) = (tt, tt)

listed_first : (name : ℕ → List ℕ) (names : List (List ℕ)) (op : NamedOp) (ops : List NamedOp) (sources targets : List ℕ)
    (noted : List (Option ℕ)) (k : ℕ) → AreNoted name names noted → AreEndsListed name (op ∷ ops) (drop k sources) (drop k targets)
    → WasFound names op (ends_at noted (slice_get sources k) (slice_get targets k))
listed_first name names op ops [] targets noted k right are = (tt, tt)
listed_first name names op ops (s ∷ sources) [] noted k right are = no_target names op noted (slice_get (s ∷ sources) k)
listed_first name names op ops (s ∷ sources) (t ∷ targets) noted zero right are =
    ends_right name names (parts_of op) s t noted right are.0
listed_first name names op ops (s ∷ sources) (t ∷ targets) noted (suc k) right are =
    listed_first name names op ops sources targets noted k right are

pub known_first : (name : ℕ → List ℕ) (names : List (List ℕ)) (op : NamedOp) (ops : List NamedOp) (found : KnownEnds)
    (noted : List (Option ℕ)) (k : ℕ) → AreNoted name names noted → AreKnown name names (op ∷ ops) found k
    → WasFound names op (found_by found noted k)
known_first name names op ops (Looked ends) noted k right are = first_found names op ops ends.now k are
known_first name names op ops (Listed listing) noted k right are =
    listed_first name names op ops listing.sources.now listing.targets.now noted k right are

-- and what is known of the rest
none_listed : (name : ℕ → List ℕ) (ops : List NamedOp) (targets : List ℕ) → AreEndsListed name ops [] targets
none_listed name [] targets = tt
none_listed name (op ∷ ops) targets = tt

no_targets_listed : (name : ℕ → List ℕ) (ops : List NamedOp) (sources : List ℕ) → AreEndsListed name ops sources []
no_targets_listed name [] sources = tt
no_targets_listed name (op ∷ ops) [] = tt
no_targets_listed name (op ∷ ops) (s ∷ sources) = tt

tail_listed : (name : ℕ → List ℕ) (op : NamedOp) (ops : List NamedOp) (sources targets : List ℕ)
    → AreEndsListed name (op ∷ ops) sources targets → AreEndsListed name ops (drop 1 sources) (drop 1 targets)
tail_listed name op ops [] targets are = none_listed name ops (drop 1 targets)
tail_listed name op ops (s ∷ sources) [] are = no_targets_listed name ops sources
tail_listed name op ops (s ∷ sources) (t ∷ targets) are = are.1

pub known_rest : (name : ℕ → List ℕ) (names : List (List ℕ)) (op : NamedOp) (ops : List NamedOp) (found : KnownEnds) (k : ℕ)
    → AreKnown name names (op ∷ ops) found k → AreKnown name (names_after op names) ops found (k + 1)
known_rest name names op ops (Looked ends) k are =
    all_later names op ops (drop (k + 1) ends.now) (rest_found names op ops ends.now k are)
known_rest name names op ops (Listed listing) k are =
    subst (λ (l : List ℕ). AreEndsListed name ops (drop (k + 1) listing.sources.now) l) (drop-drop 1 k listing.targets.now)
    (subst (λ (l : List ℕ). AreEndsListed name ops l (drop 1 (drop k listing.targets.now))) (drop-drop 1 k listing.sources.now)
    (tail_listed name op ops (drop k listing.sources.now) (drop k listing.targets.now) are))

-- its numbers are noted
no_target_noted : (name : ℕ → List ℕ) (names : List (List ℕ)) (r : Resolved) (noted : List (Option ℕ)) (source : Option ℕ)
    → AreNoted name names noted → AreNoted name names (noted_ends source None r noted)
no_target_noted name names r noted None right = right
no_target_noted name names r noted (Some s) right = right

listed_noted : (name : ℕ → List ℕ) (names kinds : List (List ℕ)) (op : NamedOp) (ops : List NamedOp) (most : ℕ) (sources targets : List ℕ)
    (noted : List (Option ℕ)) (k : ℕ) → AreEndsListed name (op ∷ ops) (drop k sources) (drop k targets) → AreNoted name names noted
    → AreNoted name names (noted_ends (slice_get sources k) (slice_get targets k) (resolve_parts names kinds (parts_in most op)) noted)
listed_noted name names kinds op ops most [] targets noted k are right = right
listed_noted name names kinds op ops most (s ∷ sources) [] noted k are right =
    no_target_noted name names _ noted (slice_get (s ∷ sources) k) right
listed_noted name names kinds op ops most (s ∷ sources) (t ∷ targets) noted zero are right =
    parts_noted name names kinds (parts_in most op) s t noted (ends_in_parts name most op s t are.0) right
listed_noted name names kinds op ops most (s ∷ sources) (t ∷ targets) noted (suc k) are right =
    listed_noted name names kinds op ops most sources targets noted k are right

pub known_noted : (name : ℕ → List ℕ) (names kinds : List (List ℕ)) (op : NamedOp) (ops : List NamedOp) (most : ℕ) (found : KnownEnds)
    (noted : List (Option ℕ)) (k : ℕ) (r : Resolved) → AreKnown name names (op ∷ ops) found k → AreNoted name names noted
    → r ≡ resolve_parts (names_after op names) kinds (parts_in most op)
    → AreNoted name (names_after op names) (noted_after found k r noted)
known_noted name names kinds op ops most (Looked ends) noted k r are right is = noted_later name names op noted right
known_noted name names kinds op ops most (Listed listing) noted k r are right is =
    subst (λ (it : Resolved). AreNoted name (names_after op names)
    (noted_ends (slice_get listing.sources.now k) (slice_get listing.targets.now k) it noted)) (sym is)
    (listed_noted name (names_after op names) kinds op ops most listing.sources.now listing.targets.now noted k are
    (noted_later name names op noted right))
