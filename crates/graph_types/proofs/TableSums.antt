-- Lines, and sums, over rows of two lists, with one row more.
use Rattle.std.proofs.Common.{◌≡◌, ℕ, ◌+◌, ◌<◌, min, List, [], ◌∷◌, ◌++◌, length, get_or, take, append_assoc, append-nil, refl}
use Rattle.std.proofs.{Common.{sym, ap, ◌∙◌, arith}, lemmas.{Grind.flat_map-append, List.{get_or_default, Sums.sum_by-append}}}
use Rattle.std.specs.{List.flat_map, Prelude.{zip, sum_by}}
use Rattle.graph_types.specs.declared.ids.Degree.{Degree}
use Rattle.graph_types.proofs.AnalysisReplies.{next_pair, pairs_all}

module _ {A B : Type 0} (xs : List A) (ys : List B) where
  -- one row's line more
  pub lines_more : (f : A × B → List ℕ) (start lines new : List ℕ) (k : ℕ) (x d : A) (y : B)
      → lines ≡ start ++ flat_map f (take k (zip xs ys)) → new ≡ lines ++ f (x, y) → k < min (length xs) (length ys)
      → x ≡ get_or xs k d → y ≡ get_or ys k y → new ≡ start ++ flat_map f (take (k + 1) (zip xs ys))
  lines_more f start lines new k x d y is written within first second =
      let before = take k (zip xs ys) in
      written ∙ ap (λ text. text ++ f (x, y)) is ∙ append_assoc start (flat_map f before) (f (x, y))
      ∙ ap (λ text. start ++ (flat_map f before ++ text)) (sym (append-nil (f (x, y))))
      ∙ ap (λ text. start ++ text) (sym (flat_map-append f before ((x, y) ∷ [])))
      ∙ ap (λ rows. start ++ flat_map f rows) (sym (next_pair xs ys k x d y (omega arith) (omega arith) first second))

  -- of a value that is read from its list
  pub value_lines_more : (f : A × B → List ℕ) (start lines new : List ℕ) (k : ℕ) (x d : A) (e : B)
      → lines ≡ start ++ flat_map f (take k (zip xs ys)) → new ≡ lines ++ f (x, get_or ys k e)
      → k < min (length xs) (length ys) → x ≡ get_or xs k d → new ≡ start ++ flat_map f (take (k + 1) (zip xs ys))
  value_lines_more f start lines new k x d e is written within first =
      lines_more f start lines new k x d (get_or ys k e) is written within first (get_or_default ys k e _ (omega arith))

  pub lines_all : (f : A × B → List ℕ) (start lines : List ℕ) (k : ℕ)
      → lines ≡ start ++ flat_map f (take k (zip xs ys)) → k ≡ min (length xs) (length ys)
      → lines ≡ start ++ flat_map f (zip xs ys)
  lines_all f start lines k is end = is ∙ ap (λ rows. start ++ flat_map f rows) (pairs_all xs ys k end)

  -- one row's share of a sum more
  pub sum_more : (f : A × B → ℕ) (total : ℕ) (k : ℕ) (x d : A) (y : B) → total ≡ sum_by f (take k (zip xs ys))
      → k < min (length xs) (length ys) → x ≡ get_or xs k d → y ≡ get_or ys k y
      → total + f (x, y) ≡ sum_by f (take (k + 1) (zip xs ys))
  sum_more f total k x d y is within first second =
      let added = sum_by-append f (take k (zip xs ys)) ((x, y) ∷ []) in
      let row = ap (sum_by f) (next_pair xs ys k x d y (omega arith) (omega arith) first second) in
      omega (arith, is, added, row)

  pub sum_all : (f : A × B → ℕ) (total : ℕ) (k : ℕ) → total ≡ sum_by f (take k (zip xs ys))
      → k ≡ min (length xs) (length ys) → total ≡ sum_by f (zip xs ys)
  sum_all f total k is end = is ∙ ap (sum_by f) (pairs_all xs ys k end)

-- the edges of one row more
pub edges_more : (names : List (List ℕ)) (degrees : List Degree) (edges k n : ℕ) (d : Degree)
    → edges ≡ sum_by (λ entry. entry.1.outgoing) (take k (zip names degrees))
    → n ≡ (get_or degrees k d).outgoing → k < min (length names) (length degrees)
    → edges + n ≡ sum_by (λ entry. entry.1.outgoing) (take (k + 1) (zip names degrees))
edges_more names degrees edges k n d is n_is within =
    let y = get_or degrees k d in
    ap (λ m. edges + m) n_is
    ∙ sum_more names degrees (λ entry. entry.1.outgoing) edges k (get_or names k []) [] y is within refl
    (get_or_default degrees k d y (omega arith))
