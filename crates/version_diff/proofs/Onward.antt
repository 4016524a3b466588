-- What became of the edges of sources from one on, where few rows may differ.
use Rattle.std.proofs.Common.{◌≡◌, ℕ, zero, suc, ◌+◌, ◌-◌, ◌<◌, ◌≤◌, ◌==◌, List, [], ◌∷◌, ◌++◌, length, get_or, drop, false}
use Rattle.std.proofs.Common.{refl, sym, ap, ◌∙◌, arith, append_assoc, append-nil, add-one, Bool}
use Rattle.std.proofs.{lemmas.{Bool.ne_eqb, List.{get_or-drop, length-drop, nil_from_length}}, Math.Seq.drop-cons}
use Rattle.std.specs.{List.list_any, Prelude.◌||◌}
use Rattle.graph_types.specs.declared.ids.{Filter.Filter, VertexId.VertexId}
use Rattle.graph_version.specs.{Versions.IsVersion}
use Rattle.edge_block.specs.Slots.{BlockView}
use Rattle.version_diff.specs.{Pairs.{PairView, ArePair, AreSourcesRising}, Differences.{seen_in, seen_from, difference_of, difference_at, differences_from}}
use Rattle.version_diff.specs.declared.rows.EdgeDifference.{EdgeDifference}
use Rattle.version_diff.proofs.{Apart.apart_from, PassedOver.no_difference}

-- of sources and those behind them
from_more : (f : Filter) (p : PairView) (a m n : ℕ)
    → differences_from f p a (m + n) ≡ differences_from f p a m ++ differences_from f p (a + m) n
from_more f p a zero n =
    let none : zero + n ≡ n = omega arith in
    let same : a ≡ a + zero = omega arith in
    ap (differences_from f p a) none ∙ ap (λ s. differences_from f p s n) same
from_more f p a (suc m) n =
    let more : suc m + n ≡ suc (m + n) = omega arith in
    let same : (a + 1) + m ≡ a + suc m = omega arith in
    ap (differences_from f p a) more
    ∙ ap (λ ds. difference_at f p a ++ ds) (from_more f p (a + 1) m n ∙ ap (λ s. differences_from f p (a + 1) m ++ differences_from f p s n) same)
    ∙ sym (append_assoc (difference_at f p a) (differences_from f p (a + 1) m) (differences_from f p (a + suc m) n))

none_from : (f : Filter) (p : PairView) (a n : ℕ) → ((s : ℕ) → a ≤ s → s < a + n → difference_at f p s ≡ [])
    → differences_from f p a n ≡ []
none_from f p a zero none = refl
none_from f p a (suc n) none =
    ap (λ ds. ds ++ differences_from f p (a + 1) n) (none a (omega arith) (omega arith))
    ∙ none_from f p (a + 1) n (λ s from to. none s (omega arith) (omega arith))

-- past sources without a difference
pub further : (f : Filter) (p : PairView) (a b c : ℕ) (ds : List EdgeDifference) → a ≤ b → b ≤ c
    → ds ≡ differences_from f p a (b - a) → ((s : ℕ) → b ≤ s → s < c → difference_at f p s ≡ [])
    → ds ≡ differences_from f p a (c - a)
further f p a b c ds ab bc so_far none =
    let parts : c - a ≡ (b - a) + (c - b) = omega arith in
    let here : a + (b - a) ≡ b = omega arith in
    let empty : differences_from f p b (c - b) ≡ [] = none_from f p b (c - b) (λ s from to. none s from (omega arith)) in
    so_far ∙ sym (append-nil (differences_from f p a (b - a)))
    ∙ ap (λ xs. differences_from f p a (b - a) ++ xs) (sym empty)
    ∙ ap (λ s. differences_from f p a (b - a) ++ differences_from f p s (c - b)) (sym here)
    ∙ sym (from_more f p a (b - a) (c - b)) ∙ ap (differences_from f p a) (sym parts)

-- and one source more
pub one_more : (f : Filter) (p : PairView) (a c : ℕ) (ds : List EdgeDifference) → a ≤ c → ds ≡ differences_from f p a (c - a)
    → ds ++ difference_at f p c ≡ differences_from f p a (c + 1 - a)
one_more f p a c ds ac so_far =
    let parts : c + 1 - a ≡ (c - a) + 1 = omega arith in
    let here : a + (c - a) ≡ c = omega arith in
    ap (λ xs. xs ++ difference_at f p c) so_far
    ∙ ap (λ s. differences_from f p a (c - a) ++ difference_at f p s) (sym here)
    ∙ ap (λ xs. differences_from f p a (c - a) ++ xs) (sym (append-nil (difference_at f p (a + (c - a)))))
    ∙ sym (from_more f p a (c - a) 1) ∙ ap (differences_from f p a) (sym parts)

-- a source that isn't one of those at which the rows may differ has no difference
pub stays : (f : Filter) (p : PairView) (sources : List VertexId) (s : ℕ) → ArePair p.earlier p.later sources → IsVersion p.earlier
    → list_any (λ v. s == v.0) sources ≡ false → difference_at f p s ≡ []
stays f p sources s are is none =
    ap (λ (row : List BlockView). difference_of s (seen_from f p.earlier s) (seen_in f row)) (sym (are.differ s none))
    ∙ no_difference s (seen_from f p.earlier s) (apart_from f p.earlier s is)

none_any : (s : ℕ) (xs : List VertexId) (d : VertexId) → ((k : ℕ) → k < length xs → s < (get_or xs k d).0)
    → list_any (λ v. s == v.0) xs ≡ false
none_any s [] d below = refl
none_any s (x ∷ xs) d below =
    let lt : s < x.0 = below 0 (omega arith) in
    let here : (s == x.0) ≡ false = ne_eqb s x.0 (λ same. let e = same in omega arith) in
    rw here (none_any s xs d (λ k less. below (suc k) (omega arith)))

-- a source before the next one is none of those from there on
pub before_next : (s : ℕ) (xs : List VertexId) (i : ℕ) (d : VertexId) → AreSourcesRising xs → i < length xs
    → s < (get_or xs i d).0 → list_any (λ v. s == v.0) (drop i xs) ≡ false
before_next s xs i d rising within lt = none_any s (drop i xs) d below
  where
    below : (k : ℕ) → k < length (drop i xs) → s < (get_or (drop i xs) k d).0
    below zero less =
        let here : i + zero ≡ i = omega arith in
        let at : get_or (drop i xs) zero d ≡ get_or xs i d = get_or-drop i xs zero d ∙ ap (λ n. get_or xs n d) here in
        rw at lt
    below (suc k) less =
        let later : (get_or xs i d).0 < (get_or xs (i + suc k) d).0 =
        rising i (i + suc k) d (omega arith) (omega (arith, length-drop i xs)) in
        rw (get_or-drop i xs (suc k) d) (omega arith)

-- nor one behind all of them
pub behind_all : (s : ℕ) (xs : List VertexId) (i : ℕ) → length xs ≤ i → list_any (λ v. s == v.0) (drop i xs) ≡ false
behind_all s xs i past =
    let none : length (drop i xs) ≡ 0 = omega (arith, length-drop i xs) in
    ap (list_any (λ (v : VertexId). s == v.0)) (nil_from_length (drop i xs) none)

-- nor one past the next one, if it is none of the others
pub past_one : (s : ℕ) (xs : List VertexId) (i : ℕ) (d : VertexId) → i < length xs → (get_or xs i d).0 < s
    → list_any (λ v. s == v.0) (drop (i + 1) xs) ≡ false → list_any (λ v. s == v.0) (drop i xs) ≡ false
past_one s xs i d within lt none =
    let here : (s == (get_or xs i d).0) ≡ false = ne_eqb s (get_or xs i d).0 (λ same. let e = same in omega arith) in
    ap (list_any (λ (v : VertexId). s == v.0)) (drop-cons xs i d within)
    ∙ ap (λ (b : Bool). b || list_any (λ (v : VertexId). s == v.0) (drop (suc i) xs)) here
    ∙ ap (λ n. list_any (λ (v : VertexId). s == v.0) (drop n xs)) (sym (add-one i)) ∙ none

-- up to a source that is none of those that are left, no source has a difference
pub nothing_until : (f : Filter) (p : PairView) (xs : List VertexId) (i next end : ℕ) → ArePair p.earlier p.later xs
    → IsVersion p.earlier
    → ((s : ℕ) → next ≤ s → list_any (λ v. s == v.0) (drop i xs) ≡ false → list_any (λ v. s == v.0) xs ≡ false)
    → ((s : ℕ) → next ≤ s → s < end → list_any (λ v. s == v.0) (drop i xs) ≡ false)
    → (s : ℕ) → next ≤ s → s < end → difference_at f p s ≡ []
nothing_until f p xs i next end are is past clear s from to = stays f p xs s are is (past s from (clear s from to))
