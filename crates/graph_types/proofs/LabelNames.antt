-- The names that labels have, vertex by vertex, each listed at its first appearance.
use Rattle.std.proofs.Common.{◌≡◌, ℕ, zero, suc, ◌+◌, ◌<◌, ◌≤◌, Bool, true, false, cond, ◌||◌, List, [], ◌∷◌, ◌++◌, map, length}
use Rattle.std.proofs.Common.{get_or, fold, count_by, zip, bytes_eq, inl, inr, refl, sym, ap, ◌∙◌, arith}
use Rattle.std.proofs.{Math.Nat.eq-or-lt_of_le, lemmas.{Bool.false≢true, List.{length-append, Folds.list_any-append}}}
use Rattle.std.proofs.lemmas.{List.Sums.sum_by-cons, Slice.Eq.bytes_eq-Decides}
use Rattle.std.specs.{List.{list_any, range_with_len}, Prelude.◌⊎◌}
use Rattle.graph_types.specs.Step.{with_name}
use Rattle.graph_types.proofs.NameLists.{appears-with_name, stays-with_name}

-- every label is that of itself, and no vertex has a greater one; vertices have different names
pub record AreOwn (total : ℕ) (label : ℕ → ℕ) (name : ℕ → List ℕ) : Type 0 where
  pub different : (a b : ℕ) → a < total → b < total → name a ≡ name b → a ≡ b
  pub least : (v : ℕ) → v < total → label v ≤ v
  pub own : (v : ℕ) → v < total → label (label v) ≡ label v

-- these names are those of the labels of the vertices below v
pub record Seen (label : ℕ → ℕ) (name : ℕ → List ℕ) (v : ℕ) (seen : List (List ℕ)) : Type 0 where
  pub from : (n : List ℕ) → list_any (bytes_eq n) seen ≡ true → (w : ℕ) × (w < v) × (n ≡ name (label w))
  pub each : (w : ℕ) → w < v → list_any (bytes_eq (name (label w))) seen ≡ true

-- a name that is listed behind an addition stood there before, or is the one that was added
with_name-listed : (names : List (List ℕ)) (name n : List ℕ) → list_any (bytes_eq n) (with_name names name) ≡ true
    → (list_any (bytes_eq n) names ≡ true) ⊎ (n ≡ name)
with_name-listed names name n listed = go (list_any (bytes_eq name) names) refl listed
  where
    split : (a b : Bool) → bytes_eq n name ≡ b → (a || (b || false)) ≡ true → (a ≡ true) ⊎ (n ≡ name)
    split true b same h = inl refl
    split false true same h = inr ((bytes_eq-Decides n name).0 same)
    split false false same h = absurd (false≢true h)

    go : (b : Bool) → list_any (bytes_eq name) names ≡ b → list_any (bytes_eq n) (cond b names (names ++ name ∷ [])) ≡ true
        → (list_any (bytes_eq n) names ≡ true) ⊎ (n ≡ name)
    go true is h = inl h
    go false is h = split (list_any (bytes_eq n) names) (bytes_eq n name) refl
        (sym (list_any-append (bytes_eq n) names (name ∷ [])) ∙ h)

seen_more : (label : ℕ → ℕ) (name : ℕ → List ℕ) (v : ℕ) (seen : List (List ℕ)) → Seen label name v seen
    → Seen label name (v + 1) (with_name seen (name (label v)))
seen_more label name v seen before = record {
  from = λ n listed. elim (with_name-listed seen (name (label v)) n listed) [
    | inl earlier ↦ let w = before.from n earlier in let below : w.0 < v = w.1 in (w.0, omega arith, w.2)
    | inr same ↦ (v, omega arith, same)
  ];
  each = λ w below. elim (eq-or-lt_of_le (at_most w below)) [
    | inl same ↦ rw same (appears-with_name seen (name (label v)))
    | inr less ↦ stays-with_name seen (name (label v)) (name (label w)) (before.each w less)
  ];
} where
  at_most : (w : ℕ) → w < v + 1 → w ≤ v
  at_most w below = omega arith

-- a label that wasn't seen is that of its own vertex
grown : (total : ℕ) (label : ℕ → ℕ) (name : ℕ → List ℕ) (v : ℕ) (seen : List (List ℕ)) → AreOwn total label name → v < total
    → Seen label name v seen
    → length (with_name seen (name (label v))) ≡ length seen + cond (bytes_eq (name v) (name (label v))) 1 0
grown total label name v seen are within before =
    go (bytes_eq (name v) (name (label v))) refl (list_any (bytes_eq (name (label v))) seen) refl
  where
    most : label v ≤ v
    most = are.least v within

    is_own : bytes_eq (name v) (name (label v)) ≡ true → label v ≡ v
    is_own same =
        let below : label v < total = omega arith in
        sym (are.different v (label v) within below ((bytes_eq-Decides (name v) (name (label v))).0 same))

    is_lower : bytes_eq (name v) (name (label v)) ≡ false → label v < v
    is_lower other = elim (eq-or-lt_of_le most) [
      | inl same ↦ absurd (false≢true (sym other ∙ (bytes_eq-Decides (name v) (name (label v))).1 (ap name (sym same))))
      | inr less ↦ less
    ]

    twice : label v ≡ v → list_any (bytes_eq (name (label v))) seen ≡ true → ⊥
    twice own listed =
        let w = before.from (name (label v)) listed in
        let below : w.0 < v = w.1 in
        let lower : label w.0 ≤ w.0 = are.least w.0 (omega arith) in
        let same : label v ≡ label w.0 = are.different (label v) (label w.0) (omega arith) (omega arith) w.2 in
        omega arith

    never : label v < v → list_any (bytes_eq (name (label v))) seen ≡ false → ⊥
    never lower unseen =
        false≢true
        (sym unseen ∙ (ap (λ u. list_any (bytes_eq (name u)) seen) (sym (are.own v within)) ∙ before.each (label v) lower))

    go : (b : Bool) → bytes_eq (name v) (name (label v)) ≡ b → (s : Bool) → list_any (bytes_eq (name (label v))) seen ≡ s
        → length (cond s seen (seen ++ name (label v) ∷ [])) ≡ length seen + cond b 1 0
    go true own true listed = absurd (twice (is_own own) listed)
    go true own false listed = length-append seen (name (label v) ∷ [])
    go false other true listed = omega arith
    go false other false listed = absurd (never (is_lower other) listed)

abbrev row : (ℕ → ℕ) → (ℕ → List ℕ) → ℕ → List ℕ × List ℕ
row label name v = (name v, name (label v))

one_more : (all old new own more both : ℕ) → new ≡ old + own → all ≡ new + more → both ≡ own + more → all ≡ old + both
one_more all old new own more both first rest sums = omega arith

pub counted : (total : ℕ) (label : ℕ → ℕ) (name : ℕ → List ℕ) → AreOwn total label name → (v n : ℕ) (seen : List (List ℕ))
    → v + n ≤ total → Seen label name v seen
    → length (fold with_name seen (map (λ entry. entry.1) (map (row label name) (range_with_len v n))))
    ≡ length seen + count_by (λ entry. bytes_eq entry.0 entry.1) (map (row label name) (range_with_len v n))
counted total label name are v zero seen within before = omega arith
counted total label name are v (suc n) seen within before =
    let first = grown total label name v seen are (omega arith) before in
    let rest = counted total label name are (v + 1) n (with_name seen (name (label v))) (omega arith)
    (seen_more label name v seen before) in
    let sums = sum_by-cons (λ (entry : List ℕ × List ℕ). cond (bytes_eq entry.0 entry.1) 1 0) (row label name v)
    (map (row label name) (range_with_len (v + 1) n)) in
    one_more _ _ _ _ _ _ first rest sums

-- the rows of the vertices from one on, in number order
pub rows_from : (label : ℕ → ℕ) (name : ℕ → List ℕ) (v : ℕ) (names : List (List ℕ)) (labels : List ℕ)
    → length labels ≡ length names
    → ((k j : ℕ) → j ≡ v + k → k < length names → get_or names k [] ≡ name j)
    → ((k j : ℕ) → j ≡ v + k → k < length names → get_or labels k 0 ≡ label j)
    → zip names (map name labels) ≡ map (row label name) (range_with_len v (length names))
rows_from label name v [] labels long are label_is = refl
rows_from label name v (n ∷ names) [] long are label_is = absurd (omega (arith, long))
rows_from label name v (n ∷ names) (l ∷ labels) long are label_is =
    let first : n ≡ name v = are 0 v (omega arith) (omega arith) in
    let second : l ≡ label v = label_is 0 v (omega arith) (omega arith) in
    let rest : zip names (map name labels) ≡ map (row label name) (range_with_len (v + 1) (length names)) =
    rows_from label name (v + 1) names labels (omega (arith, long))
    (λ k j is below. are (suc k) j (omega arith) (omega arith))
    (λ k j is below. label_is (suc k) j (omega arith) (omega arith)) in
    ap (λ xs. (n, name l) ∷ xs) rest ∙ ap (λ x. (x, name l) ∷ map (row label name) (range_with_len (v + 1) (length names))) first
    ∙ ap (λ u. (name v, name u) ∷ map (row label name) (range_with_len (v + 1) (length names))) second
