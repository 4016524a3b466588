-- Lists that begin another, and what is appended to a list part by part.
use Rattle.std.proofs.Common.{◌≡◌, ℕ, ◌+◌, ◌-◌, ◌<◌, ◌≤◌, Bool, true, false, List, [], ◌∷◌, ◌++◌, length, take, drop, nat_lt}
use Rattle.std.proofs.Common.{MatchBool, fold, append_assoc, append-nil, length-append, refl, sym, ap, ◌∙◌, arith}
use Rattle.std.proofs.{Math.Seq.{drop-append_seam, take-add}, lemmas.{Bool.Decides.nat_tests, Grind.common_steps, List.take_rest}}
use Rattle.std.specs.{Io.KnownBytes.{Appends, Keeps}, Prelude.{Option, None, Some}}
use mathlib.Core.List.{IsPrefix}
use Rattle.graph_types.specs.declared.{batches.NamedOp.NamedOp, ids.VertexId.VertexId}

-- what one more block adds behind a base
pub behind : {A : Type 0} (base so_far here old new all : List A) → new ≡ old ++ here → old ≡ base ++ so_far
    → all ≡ so_far ++ here
    → new ≡ base ++ all
behind base so_far here old new all added before whole =
    added ∙ ap (λ l. l ++ here) before ∙ append_assoc base so_far here ∙ ap (λ l. base ++ l) (sym whole)

-- rows that begin with others, and those behind them
pub front_of : (old rows more : List (VertexId × ℕ)) → rows ≡ old ++ more → rows ≡ old ++ drop (length old) rows
front_of old rows more is = is ∙ ap (λ xs. old ++ xs) (sym (ap (drop (length old)) is ∙ drop-append_seam old more))

pub front_long : (old rows : List (VertexId × ℕ)) → rows ≡ old ++ drop (length old) rows → length old ≤ length rows
front_long old rows front = grind (arith, common_steps, length-append)

-- each list begins with itself
pub prefix_self : {A : Type 0} (xs : List A) → IsPrefix xs xs
prefix_self xs = ([], append-nil xs)

pub prefix_trans : {A : Type 0} (xs ys zs : List A) → IsPrefix xs ys → IsPrefix ys zs → IsPrefix xs zs
prefix_trans xs ys zs p q = (p.0 ++ q.0, sym (append_assoc xs p.0 q.0) ∙ (ap (λ w. w ++ q.0) p.1 ∙ q.1))

-- a beginning is no longer than the whole
pub prefix_length : {A : Type 0} (xs ys : List A) → IsPrefix xs ys → length xs ≤ length ys
prefix_length xs ys p = let whole : length (xs ++ p.0) ≡ length ys = ap length p.1 in omega (arith, length-append xs p.0)

-- of two beginnings of one list the shorter begins the longer
pub prefix_shorter : {A : Type 0} (xs ys zs : List A) → IsPrefix xs zs → IsPrefix ys zs → length xs ≤ length ys → IsPrefix xs ys
prefix_shorter [] ys zs p q le = (ys, refl)
prefix_shorter (x ∷ xs) [] zs p q le = absurd (omega arith)
prefix_shorter (x ∷ xs) (y ∷ ys) [] p q le = absurd (cc (p.1))
prefix_shorter (x ∷ xs) (y ∷ ys) (z ∷ zs) p q le =
    let heads : x ≡ y = cc (p.1, q.1) in
    let rest = prefix_shorter xs ys zs (p.0, cc (p.1)) (q.0, cc (q.1)) (omega arith) in
    (rest.0, cc (heads, rest.1))

-- a beginning as long as the whole is the whole
pub prefix_whole : {A : Type 0} (xs ys : List A) → IsPrefix xs ys → length ys ≤ length xs → xs ≡ ys
prefix_whole [] [] p le = refl
prefix_whole [] (y ∷ ys) p le = absurd (omega arith)
prefix_whole (x ∷ xs) [] p le = absurd (cc (p.1))
prefix_whole (x ∷ xs) (y ∷ ys) p le =
    let rest = prefix_whole xs ys (p.0, cc (p.1)) (omega arith) in cc (p.1, rest)

-- of two beginnings of one list, one whose count is less begins the other
pub below_by : {A : Type 0} (xs ys zs : List A) (a b : ℕ) → a ≡ length xs → b ≡ length ys → IsPrefix xs zs → IsPrefix ys zs
    → (t : Bool) → nat_lt a b ≡ t → MatchBool t (IsPrefix xs ys) (IsPrefix ys xs)
below_by xs ys zs a b e f p q true is = let less : a < b = grind (arith, nat_tests) in prefix_shorter xs ys zs p q (omega arith)
below_by xs ys zs a b e f p q false is = let less : b ≤ a = grind (arith, nat_tests) in prefix_shorter ys xs zs q p (omega arith)

-- where each operation sets the whole, the last one is what stands
pub fold_last : {S : Type 0} (s : S) (xs : List S) (x : S) → fold (λ (_ y : S). y) s (xs ++ x ∷ []) ≡ x
fold_last s [] x = refl
fold_last s (y ∷ ys) x = fold_last y ys x

-- equal lists end with the same item
pub same_last : {A : Type 0} (xs ys : List A) (x y : A) → xs ++ x ∷ [] ≡ ys ++ y ∷ [] → x ≡ y
same_last {A} xs ys x y e = sym (fold_last x xs x) ∙ (ap (fold (λ (_ z : A). z) x) e ∙ fold_last x ys y)

-- a version with one batch more ends with the batch that it lends as its last
pub ends_with_last : (batches posted others : List (List NamedOp)) (next last : List NamedOp) → batches ≡ posted ++ next ∷ []
    → batches ≡ others ++ last ∷ []
    → batches ≡ posted ++ last ∷ []
ends_with_last batches posted others next last p q = p
    ∙ ap (λ x. posted ++ x ∷ []) (same_last posted others next last (sym p ∙ q))

-- what stands behind a label and a number, once the rest stands behind both
pub part_more : (x y z a b c rest : List ℕ) → y ≡ x ++ (a ++ b) → b ≡ c → z ≡ y ++ rest → z ≡ x ++ (a ++ (c ++ rest))
part_more x y z a b c rest e same f =
    f ∙ ap (λ l. l ++ rest) e ∙ append_assoc x (a ++ b) rest ∙ ap (λ l. x ++ l) (append_assoc a b rest)
    ∙ ap (λ l. x ++ (a ++ (l ++ rest))) same

pub appends_nothing : (a : Option (List ℕ)) → Appends a a []
appends_nothing None = tt
appends_nothing (Some xs) = sym (append-nil xs)

pub appends_then : (a b c : Option (List ℕ)) (x y : List ℕ) → Appends a b x → Appends b c y → Appends a c (x ++ y)
appends_then None b c x y first second = tt
appends_then (Some xs) None c x y first second = absurd first
appends_then (Some xs) (Some ys) None x y first second = absurd second
appends_then (Some xs) (Some ys) (Some zs) x y first second = rw (second, first) (append_assoc xs x y)

pub appends_kept : (a b c : Option (List ℕ)) (x : List ℕ) → Appends a b x → Keeps b c → Appends a c x
appends_kept None b c x first kept = tt
appends_kept (Some xs) None c x first kept = absurd first
appends_kept (Some xs) (Some ys) None x first kept = absurd kept
appends_kept (Some xs) (Some ys) (Some zs) x first kept = kept ∙ first

-- n bytes more of a text
pub taken_more : (a b c : Option (List ℕ)) (at n : ℕ) (text : List ℕ) → Appends a b (take at text)
    → Appends b c (take n (take (length text - at) (drop at text))) → Appends a c (take (at + n) text)
taken_more a b c at n text before more =
    rw (take-add at n text) (appends_then a b c (take at text) (take n (drop at text)) before (rw (take_rest text at) at more))
