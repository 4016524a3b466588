-- The steps of the history keep its rule.
use Rattle.graph_types.specs.declared.batches.NamedOp.{NamedOp}
use Rattle.std.proofs.Common.{◌≡◌, ℕ, suc, ◌+◌, ◌<◌, ◌≤◌, ◌==◌, Bool, true, false, List, [], ◌∷◌, ◌++◌, length, set, refl, ap, ap₂, sym}
use Rattle.std.proofs.Common.{subst, ◌∙◌, arith, inl, length-append, None}
use Rattle.std.proofs.lemmas.{List.append-nil, Bool.eqb-true, Bool.true≢false}
use mathlib.Core.List.{IsPrefix}
use prog.Atomic.{either}
use Rattle.logbook.specs.Pages.{Cell, cell, keeps, gives, adds, nib, no_nib, may_make, step, Moves, Goes}
use Rattle.graph_types.proofs.Prefixes.{prefix_whole, prefix_length}
use Rattle.version_shelf.specs.Histories.{AreRightsUsed, Makes, Adds, right_at, rights, cells_of}
use Rattle.version_shelf.proofs.Rights.{length_cells, first_left, use_up, one_more}

abbrev pub shown : List (List NamedOp) → List (List NamedOp)
shown log = []

abbrev pub moved : List (List NamedOp) → List (List NamedOp) → ℕ → Type 0
moved xs ys n = Unit {0}

-- the word is left as it is
stays : (n old : ℕ) → either (n == old) old n ≡ n
stays n old = elim (n == old) as (λ t. (n == old) ≡ t → either t old n ≡ n) [
  | true ↦ λ e. sym (eqb-true n old e)
  | false ↦ λ e. refl
] refl

-- the cells are those that the rule asks for
abbrev as_counted : ℕ → List Cell → List Cell
as_counted n cs = (n, true) ∷ (0, true) ∷ cs

-- Who has the right behind as many batches as it has seen has seen all.
module _ (cs : List Cell) (log : List (List NamedOp)) (kept : AreRightsUsed cs log) (place : ℕ) (few : place ≤ length log)
    (left_yet : (suc (suc place) < length cs) × ((cell cs (suc (suc place))).1 ≡ false)) where
  pub all_added : (length log ≡ place) × ((rest : ℕ) × (kept.left ≡ suc rest))
  all_added =
      let there = subst (λ (c : List Cell). (suc (suc place) < length c) × ((cell c (suc (suc place))).1 ≡ false)) kept.words
      left_yet in
      let long = length_cells (length log) kept.left in
      let within = there.0 in
      first_left (length log) kept.left place few (omega arith) there.1

-- A right is made.

makes_goes : (log v : List (List NamedOp)) (e : List NamedOp) (old left : ℕ) (b : Bool) → (length log + left == old) ≡ b
    → Goes AreRightsUsed shown moved 0 (v, (no_nib, None)) (λ n. either (n == old) (old + 1) n)
    (Makes (step 0 old (old + 1) e) (v, (no_nib, None))) (cells_of (length log) left) log
makes_goes log v e old left true is =
    let here : length log + left ≡ old = eqb-true (length log + left) old is in
    let same : length (log ++ []) ≡ length log = ap length (append-nil log) in
    let word : either (length log + left == old) (old + 1) (length log + left) ≡ length (log ++ []) + suc left =
    rw is (omega arith) in
    let cells : rights (length log) left ++ (0, false) ∷ [] ≡ rights (length (log ++ [])) (suc left) =
    one_more (length log) left ∙ ap (λ k. rights k (suc left)) (sym same) in
    let long : length (cells_of (length log) left) ≡ suc (suc old) = length_cells (length log) left ∙ ap (λ k. suc (suc k)) here in (
      adds,
      [],
      None,
      tt,
      record { left = suc left; words = ap₂ as_counted word cells },
      inl (refl, refl),
      λ _. ap (λ k. nib may_make k 0) long,
    )
makes_goes log v e old left false is =
    let same : length (log ++ []) ≡ length log = ap length (append-nil log) in
    let word : either (length log + left == old) (old + 1) (length log + left) ≡ length (log ++ []) + left =
    rw is (omega arith) in (
      keeps,
      [],
      None,
      tt,
      record { left = left; words = ap₂ as_counted word (ap (λ k. rights k left) (sym same)) },
      inl (refl, refl),
      λ t. absurd (true≢false (sym t ∙ is)),
    )

pub makes_moves : (v : List (List NamedOp)) (e : List NamedOp) (old : ℕ)
    → Moves AreRightsUsed shown moved 0 (v, (no_nib, None)) (λ n. either (n == old) (old + 1) n)
    (Makes (step 0 old (old + 1) e) (v, (no_nib, None)))
makes_moves v e old cs log kept pre away =
    let P : List Cell → Type 0 = λ c. (0 < length c) × ((cell c 0).1 ≡ true)
    × Goes AreRightsUsed shown moved 0 (v, (no_nib, None)) (λ n. either (n == old) (old + 1) n)
    (Makes (step 0 old (old + 1) e) (v, (no_nib, None))) c log in
    subst P (sym kept.words) (omega arith, refl, makes_goes log v e old kept.left (length log + kept.left == old) refl)

-- A batch is added.

adds_goes : (log v : List (List NamedOp)) (e : List NamedOp) (old left : ℕ) → IsPrefix v log → length log ≡ length v
    → Goes AreRightsUsed shown moved 0 (v, (right_at (length v), None)) (λ n. either (n == old) old n)
    (Adds (step 0 old old e) (v, (right_at (length v), None))) (cells_of (length log) (suc left)) log
adds_goes log v e old left pre as_long =
    let same : v ≡ log = prefix_whole v log pre (omega arith) in
    let long : length (log ++ e ∷ []) ≡ suc (length log) = omega (arith, length-append log (e ∷ [])) in
    let word : either (length log + suc left == old) old (length log + suc left) ≡ length (log ++ e ∷ []) + left =
    stays (length log + suc left) old ∙ omega arith in
    let cells : set (rights (length log) (suc left)) (length v) (0, true) ≡ rights (length (log ++ e ∷ [])) left =
    ap (λ k. set (rights (length log) (suc left)) k (0, true)) (sym as_long)
    ∙ (use_up (length log) left ∙ ap (λ k. rights k left) (sym long)) in (
      gives,
      e ∷ [],
      None,
      refl,
      record { left = left; words = ap₂ as_counted word cells },
      inl (refl, refl),
      ap (λ w. w ++ e ∷ []) (sym same),
    )

-- whatever the history is, the batch is added to all that was seen, which is all there is
pub adds_moves : (v : List (List NamedOp)) (e : List NamedOp) (old : ℕ)
    → Moves AreRightsUsed shown moved 0 (v, (right_at (length v), None)) (λ n. either (n == old) old n)
    (Adds (step 0 old old e) (v, (right_at (length v), None)))
adds_moves v e old cs log kept pre away =
    let P : List Cell → Type 0 = λ c. (0 < length c) × ((cell c 0).1 ≡ true)
    × Goes AreRightsUsed shown moved 0 (v, (right_at (length v), None)) (λ n. either (n == old) old n)
    (Adds (step 0 old old e) (v, (right_at (length v), None))) c log in
    let all = all_added cs log kept (length v) (prefix_length v log pre) (away refl) in
    let is : cs ≡ cells_of (length log) (suc all.1.0) = kept.words ∙ ap (cells_of (length log)) all.1.1 in
    subst P (sym is) (omega arith, refl, adds_goes log v e old all.1.0 pre all.0)
