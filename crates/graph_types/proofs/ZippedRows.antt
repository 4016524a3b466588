-- Rows put together from two lists, one place after another.
use Rattle.std.proofs.Common.{◌≡◌, ℕ, ◌+◌, ◌<◌, min, List, [], ◌∷◌, ◌++◌, length, get_or, take, zip, length-append, refl, sym, ap}
use Rattle.std.proofs.{Common.{◌∙◌, arith}, lemmas.{Grind.common_steps, List.{take_more, take_all}}}
use Rattle.std.proofs.lemmas.Slice.Zip.{length-zip, get_or-zip}

module _ {A B : Type 0} (xs : List A) (ys : List B) where
  pub rows_more : (rows : List (A × B)) (k n : ℕ) (x : A) (y : B) → rows ≡ take k (zip xs ys) → n ≡ k + 1
      → (k < length xs) × (k < length ys) × ((d : A) → x ≡ get_or xs k d) × ((d : B) → y ≡ get_or ys k d)
      → rows ++ (x, y) ∷ [] ≡ take n (zip xs ys)
  rows_more rows k n x y is next turn =
      let within : k < length (zip xs ys) = omega (arith, length-zip xs ys, turn.0, turn.1) in
      let row : get_or (zip xs ys) k (x, y) ≡ (x, y) =
      get_or-zip xs ys k (x, y) turn.0 turn.1 ∙ (λ i. (sym (turn.2 x) i, sym (turn.3 y) i)) in
      ap (λ rs. rs ++ (x, y) ∷ []) is ∙ ap (λ row. take k (zip xs ys) ++ row ∷ []) (sym row)
      ∙ sym (take_more (zip xs ys) k (x, y) within) ∙ ap (λ m. take m (zip xs ys)) (sym next)

  pub rows_all : (rows : List (A × B)) (k : ℕ) → rows ≡ take k (zip xs ys) → k ≡ min (length xs) (length ys) → rows ≡ zip xs ys
  rows_all rows k is end = is ∙ take_all k (zip xs ys) (omega (arith, length-zip xs ys))

  -- the row that comes next
  pub next_row : (k n : ℕ) (x : A) (y : B) → n ≡ k + 1
      → (k < length xs) × (k < length ys) × ((d : A) → x ≡ get_or xs k d) × ((d : B) → y ≡ get_or ys k d)
      → take n (zip xs ys) ≡ take k (zip xs ys) ++ (x, y) ∷ []
  next_row k n x y next turn = sym (rows_more (take k (zip xs ys)) k n x y (λ i. take k (zip xs ys)) next turn)

-- the last of one is the only one, with its need
pub paired : {A B : Type 0} (xs rest : List A) (x : A) (ys : List B) (d : B) → xs ≡ rest ++ x ∷ [] → length xs ≡ 1
    → length ys ≡ length xs → zip xs ys ≡ (x, get_or ys 0 d) ∷ []
paired xs rest x ys d e one long = grind (arith, common_steps, length-append)

-- one more pair of two lists, of which the second is given
pub zip_push : {A B : Type 0} (xs : List A) (x : A) (ys : List B) (d : B) → length xs < length ys
    → zip (xs ++ x ∷ []) ys ≡ zip xs ys ++ (x, get_or ys (length xs) d) ∷ []
zip_push xs x [] d lt = absurd (omega (arith, lt))
zip_push [] x (y ∷ ys) d lt = refl
zip_push (w ∷ xs) x (y ∷ ys) d lt = ap (λ ps. (w, y) ∷ ps) (zip_push xs x ys d (omega (arith, lt)))
