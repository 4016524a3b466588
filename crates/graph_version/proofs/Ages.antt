-- Rows by when their edges were last touched: earlier times, rows in pieces, and bounds of the times.
use Rattle.std.proofs.Common.{flat_map, map, refl, ap, ◌∙◌, arith, All, ltb, replicate, ◌≡◌, ℕ, ◌+◌}
use Rattle.std.proofs.Common.{◌-◌, ◌*◌, ◌<◌, ◌≤◌, true, false, List, [], ◌∷◌, length, get_or, set}
use Rattle.std.proofs.lemmas.{Bool.{ltb-true, ltb-false, or_from}, List.Folds.list_any_none}
use Rattle.std.proofs.lemmas.List.Elements.{All-nil, All-append, All-head, All-tail, All-weaker, All-set, All-replicate}
use Rattle.std.proofs.Math.{ListN.get_or-eq_default, Nat.mul-le-mul_right}
use Rattle.graph_types.proofs.Searches.{any_fewer}
use Rattle.edge_block.specs.Slots.{BlockView, edges_in, has_before}
use Rattle.list_pieces.{specs.Pieces.{AreFull, padded}, proofs.{Full.{long, at_piece}, Padded.{padded_at, padded_long}}}
use Rattle.edge_block.proofs.OldSlots.{earlier_block, none_before_zero}
use Rattle.graph_version.specs.{Ages.is_old_row, Ages.AreSince, Ages.AreYoung, Rows.row_of}

pub earlier_row : (s t : ℕ) (row : List BlockView) → s ≤ t → is_old_row t row ≡ false → is_old_row s row ≡ false
earlier_row s t row le none =
    any_fewer (λ (b : BlockView). has_before s b.slots) (λ (b : BlockView). has_before t b.slots)
    (λ b late. earlier_block s t b le late) row none

pub earlier_rows : (s t : ℕ) (rows : List (List BlockView)) → s ≤ t → AreSince t rows → AreSince s rows
earlier_rows s t rows le none =
    All-weaker (λ (row : List BlockView). is_old_row t row ≡ false) (λ (row : List BlockView). is_old_row s row ≡ false)
    (λ row late. earlier_row s t row le late) rows none

row_before_zero : (row : List BlockView) → is_old_row 0 row ≡ false
row_before_zero row = list_any_none (λ (b : BlockView). has_before 0 b.slots) row
    (λ i b lt. none_before_zero (edges_in (get_or row i b).slots))

pub rows_before_zero : (rows : List (List BlockView)) → AreSince 0 rows
rows_before_zero rows i row lt = row_before_zero (get_or rows i row)

-- a row of blocks, each of which keeps a bound
pub bounded_row : {X : Type 0} (f : X → BlockView) (t : ℕ) (xs : List X) → All (λ x. has_before t (f x).slots ≡ false) xs
    → is_old_row t (map f xs) ≡ false
bounded_row f t [] all = refl
bounded_row f t (x ∷ xs) all =
    or_from (has_before t (f x).slots) (is_old_row t (map f xs)) (All-head (λ x. has_before t (f x).slots ≡ false) x xs all)
    (bounded_row f t xs (All-tail (λ x. has_before t (f x).slots ≡ false) x xs all))

-- a row written, under a bound of the others and its own
pub bounded_set : (s t u : ℕ) (rows : List (List BlockView)) (i : ℕ) (row : List BlockView) → s ≤ t → s ≤ u
    → AreSince t rows → is_old_row u row ≡ false → AreSince s (set rows i row)
bounded_set s t u rows i row le le' all one =
    All-set (λ (r : List BlockView). is_old_row s r ≡ false) rows i row (earlier_row s u row le' one) (earlier_rows s t rows le all)

module _ {X : Type 0} (f : X → List (List BlockView)) where
  -- rows in pieces, each of which keeps the bound
  pub bounded_pieces : (t : ℕ) (xs : List X) → All (λ x. AreSince t (f x)) xs → AreSince t (flat_map f xs)
  bounded_pieces t [] all = All-nil (λ (r : List BlockView). is_old_row t r ≡ false)
  bounded_pieces t (x ∷ xs) all =
      All-append (λ (r : List BlockView). is_old_row t r ≡ false) (f x) (flat_map f xs) (All-head (λ x. AreSince t (f x)) x xs all)
      (bounded_pieces t xs (All-tail (λ x. AreSince t (f x)) x xs all))

  -- young rows of a piece are so among all
  pub young_in_pieces : (n : ℕ) (time : ℕ) (xs : List X) (s i j : ℕ) (e : X) (many : ℕ) → AreFull n f xs → s ≡ i * n + j
      → i < length xs → j < n → AreYoung time (f (get_or xs i e)) j many → AreYoung time (flat_map f xs) s many
  young_in_pieces n time xs s i j e many full is lt within young =
      let whole = long n f xs full in
      let piece : length (f (get_or xs i e)) ≡ n = full i e lt in
      let here = young.within in
      let places : (i + 1) * n ≤ length xs * n = mul-le-mul_right n (omega arith) in
      let next : (i + 1) * n ≡ i * n + n = omega arith in
      let look : (k : ℕ) → k < n → row_of (flat_map f xs) (i * n + k) ≡ row_of (f (get_or xs i e)) k =
      λ k few. at_piece n f xs (i * n + k) i k e [] full refl lt few in
      record {
        within = omega arith;
        young = λ r from to.
            let there : r ≡ i * n + (r - i * n) = omega arith in
            ap (λ k. is_old_row time (row_of (flat_map f xs) k)) there
            ∙ ap (is_old_row time) (look (r - i * n) (omega arith)) ∙ young.young (r - i * n) (omega arith) (omega arith);
        old = λ none. ap (λ k. is_old_row time (row_of (flat_map f xs) k)) is ∙ ap (is_old_row time) (look j within) ∙ young.old none;
      }

-- what is not from before a time is so wherever one looks
pub row_since : (time : ℕ) (rows : List (List BlockView)) → AreSince time rows → (s : ℕ) → is_old_row time (row_of rows s) ≡ false
row_since time rows all s =
    elim (ltb s (length rows)) as (λ b. ltb s (length rows) ≡ b → is_old_row time (row_of rows s) ≡ false) [
      | true ↦ λ t. all s [] (ltb-true s (length rows) t)
      | false ↦ λ f. ap (is_old_row time) (get_or-eq_default rows [] (ltb-false s (length rows) f))
    ] refl

-- under a bound that the time does not pass, all rows from a place on are young
pub young_from_bound : (time since : ℕ) (rows : List (List BlockView)) (place n : ℕ) → AreSince since rows → time ≤ since
    → length rows ≡ n → place < n → AreYoung time rows place (n - place)
young_from_bound time since rows place n all le whole within = record {
  within = omega arith;
  young = λ s from to. row_since time rows (earlier_rows time since rows le all) s;
  old = λ none. absurd (omega arith);
}

-- none is old where none is so far and no row is left
pub none_past : (time from source : ℕ) (rows : List (List BlockView))
    → ((s : ℕ) → from ≤ s → s < source → is_old_row time (row_of rows s) ≡ false) → length rows ≤ source
    → (s : ℕ) → from ≤ s → is_old_row time (row_of rows s) ≡ false
none_past time from source rows young end s le =
    elim (ltb s source) as (λ b. ltb s source ≡ b → is_old_row time (row_of rows s) ≡ false) [
      | true ↦ λ t. young s le (ltb-true s source t)
      | false ↦ λ f. let far = ltb-false s source f in ap (is_old_row time) (get_or-eq_default rows [] (let past : length rows ≤ s = omega arith in past))
    ] refl

-- rows that are young so far, and so many more
pub young_on : (time from source many : ℕ) (rows : List (List BlockView))
    → ((s : ℕ) → from ≤ s → s < source → is_old_row time (row_of rows s) ≡ false)
    → ((s : ℕ) → source ≤ s → s < source + many → is_old_row time (row_of rows s) ≡ false)
    → (s : ℕ) → from ≤ s → s < source + many → is_old_row time (row_of rows s) ≡ false
young_on time from source many rows young more s le lt =
    elim (ltb s source) as (λ b. ltb s source ≡ b → is_old_row time (row_of rows s) ≡ false) [
      | true ↦ λ t. young s le (ltb-true s source t)
      | false ↦ λ f. more s (ltb-false s source f) lt
    ] refl

-- rows without blocks
pub bounded_blank : (t n : ℕ) → AreSince t (replicate n [])
bounded_blank t n = All-replicate (λ (row : List BlockView). is_old_row t row ≡ false) n [] refl

-- rows without blocks from a place on are young
pub young_blank : (time place n : ℕ) (rows : List (List BlockView)) → length rows ≡ n → place < n
    → ((s : ℕ) → place ≤ s → row_of rows s ≡ []) → AreYoung time rows place (n - place)
young_blank time place n rows whole within blank = record {
  within = omega arith;
  young = λ s from to. ap (is_old_row time) (blank s from);
  old = λ none. absurd (omega arith);
}

-- young rows are so with empty ones behind all
pub young_padded : (time n place many : ℕ) (rows : List (List BlockView)) → length rows ≤ n → AreYoung time rows place many
    → AreYoung time (padded n [] rows) place many
young_padded time n place many rows le young =
    let whole = padded_long n [] rows le in
    let few = young.within in
    record {
      within = omega arith;
      young = λ s from to. ap (is_old_row time) (padded_at n [] rows s) ∙ young.young s from to;
      old = λ none. ap (is_old_row time) (padded_at n [] rows place) ∙ young.old none;
    }
