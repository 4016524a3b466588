-- A row of blocks among those of all rows, and these counted and listed row by row.
use Rattle.std.proofs.Common.{◌≡◌, ℕ, zero, suc, ◌+◌, ◌≤◌, cond, ◌≢◌, List, [], ◌∷◌, length, ◌==◌, AllPairs, length-append, arith}
use Rattle.std.proofs.lemmas.List.Sums.{sum_by-le}
use Rattle.std.specs.List.{sum_by, range_with_len, Contains}
use Rattle.std.specs.Option.{is_some}
use Rattle.std.proofs.Common.{◌<◌, Bool, ◌++◌, map, get_or, None, All, count_by, flat_map, inl, inr, append-nil, refl, sym, ap}
use Rattle.std.proofs.{Common.{subst, ◌∙◌}, lemmas.{Bool.{ne_eqb, cases_lt}, Grind.flat_map-append}}
use Rattle.std.proofs.lemmas.List.{get_or_past, length-map}
use Rattle.std.proofs.lemmas.List.FromFn.{map-range_with_len_more, get_or-map-range_with_len, length-map-range_with_len}
use Rattle.graph_types.specs.declared.ids.Filter.{Filter}
use Rattle.graph_types.proofs.Sums.{at_itself, sum_add, once_sum, count_by-append, sum_same, sum_lists}
use Rattle.graph_types.proofs.{Arcs.contains_map, Counts.Contains-first, Times.{times, some_times}}
use Rattle.edge_block.specs.Slots.{BlockView, entry_in, edges_in}
use Rattle.edge_block.specs.{Batches.sum_below, Rows.shape_of}
use Rattle.edge_block.proofs.BlockCounts.{length_at, rows_of_others, split_count}
use Rattle.edge_block.proofs.BatchSums.{below_zero, shift, lists_below, below_plus, count_below, sum_all, same_below}
use Rattle.edge_block.proofs.FreeSlots.{some_edge}
use Rattle.graph_version.specs.Rows.{row_of, blocks_of}
use Rattle.graph_version.specs.Versions.{content, IsBlockOf, VersionView, IsVersion, layout_of}
use Rattle.graph_version.proofs.{Members.in_rows, RowTargets.stands, Totals.same_blocks}

pub row_within : (first : ℕ) (rows : List (List BlockView)) (k s : ℕ) → s ≡ first + k
    → length (row_of rows k) ≤ length_at first rows s
row_within first [] k s at = omega arith
row_within first (row ∷ rows) zero s at = let here = at_itself first s (length row) (omega arith) in omega arith
row_within first (row ∷ rows) (suc k) s at = let rest = row_within (suc first) rows k s (omega arith) in omega arith

pub row_sum : (rows : List (List BlockView)) (first : ℕ) (xs : List ℕ) → AllPairs (λ a b. a ≢ b) xs
    → sum_by (length_at first rows) xs ≤ length (blocks_of rows)
row_sum [] first xs pairs = let none = sum_by-le (λ (s : ℕ). 0) 0 xs (λ k d lt. omega arith) in omega arith
row_sum (row ∷ rows) first xs pairs =
    let here : ℕ → ℕ = λ s. cond (s == first) (length row) 0 in
    let parts = sum_add here (length_at (suc first) rows) xs in
    let one = once_sum (length row) first xs pairs in
    let rest = row_sum rows (suc first) xs pairs in
    let all = length-append row (blocks_of rows) in
    omega arith

-- a row is among all blocks
pub row_within_all : (rows : List (List BlockView)) (source : ℕ) → length (row_of rows source) ≤ length (blocks_of rows)
row_within_all [] source = omega arith
row_within_all (row ∷ rows) zero = omega (arith, length-append row (blocks_of rows))
row_within_all (row ∷ rows) (suc source) = omega (arith, length-append row (blocks_of rows), row_within_all rows source)

rows_below : (p : BlockView → Bool) (rows : List (List BlockView)) (n : ℕ) → length rows ≤ n
    → count_by p (blocks_of rows) ≡ sum_below n (λ s. count_by p (row_of rows s))
rows_below p [] n le = sym (below_zero n)
rows_below p (row ∷ rows) zero le = absurd (omega arith)
rows_below p (row ∷ rows) (suc n) le =
    count_by-append p row (blocks_of rows) ∙ ap (λ k. count_by p row + k) (rows_below p rows n (omega arith))
    ∙ sym (shift n (λ s. count_by p (row_of (row ∷ rows) s)))

module _ (xs : List ℕ) (once : (m : ℕ) → times m xs ≤ 1) where
  -- all blocks are those of the sources that aren't listed and those of the listed ones
  pub split_rows : (p : BlockView → Bool) (rows : List (List BlockView)) (n : ℕ) → length rows ≤ n → All (λ x. x < n) xs
      → count_by p (blocks_of rows) ≡ count_by p (lists_below n (rows_of_others xs (row_of rows))) + count_by p
      (flat_map (row_of rows) xs)
  split_rows p rows n le within =
      let f : ℕ → ℕ = λ s. count_by p (row_of rows s) in
      let w : ℕ → ℕ = λ s. cond (times s xs == 0) 0 (f s) in
      let all = rows_below p rows n le in
      let parts = below_plus n f (λ s. count_by p (rows_of_others xs (row_of rows) s)) w
      (λ s. split_count p (times s xs == 0) (row_of rows s)) in
      let rest = count_below p n (rows_of_others xs (row_of rows)) in
      let listed : sum_by w xs ≡ sum_below n w =
      sum_all w n xs once within (λ m lt none. ap (λ k. let r : ℕ = cond (k == 0) 0 (f m) in r) none) in
      let own : sum_by w xs ≡ sum_by f xs = sum_same w f xs
      (λ i d lt. ap (λ b. let r : ℕ = cond b 0 (f (get_or xs i d)) in r)
      (ne_eqb (times (get_or xs i d) xs) 0 (λ e. let some = some_times xs i d lt in omega (arith, some, e)))) in
      let pieces = sum_lists p (row_of rows) xs in
      omega (arith, all, parts, rest, listed, own, pieces)

-- the blocks of the first n sources
abbrev pub blocks_below : List (List BlockView) → ℕ → List BlockView
blocks_below rows n = blocks_of (map (row_of rows) (range_with_len 0 n))

pub below_more : (rows : List (List BlockView)) (n : ℕ) → blocks_below rows (n + 1) ≡ blocks_below rows n ++ row_of rows n
below_more rows n =
    ap blocks_of (map-range_with_len_more (row_of rows) 0 n n (omega arith))
    ∙ flat_map-append (λ row. row) (map (row_of rows) (range_with_len 0 n)) (row_of rows n ∷ [])
    ∙ ap (λ bs. blocks_below rows n ++ bs) (append-nil (row_of rows n))

module _ (v : VersionView) (is : IsVersion v) where
  -- a number that is no vertex has no row
  no_row : (s : ℕ) → length (content v).names ≤ s → row_of v.rows s ≡ []
  no_row s past = go (row_of v.rows s) refl where
    go : (row : List BlockView) → row_of v.rows s ≡ row → row ≡ []
    go [] same = refl
    go (b ∷ row) same =
        let here : Contains (row_of v.rows s) b =
        subst (λ (bs : List BlockView). Contains bs b) (sym same) (Contains-first b row b refl) in
        let of : IsBlockOf s b = subst (All (IsBlockOf s)) same (is.rows.blocks s) 0 b (omega arith) in
        let e = some_edge b.slots of.has_edges in
        let there = stands (content v) v.rows is.rows (let any : Filter = record { kind = None; lo = 0; hi = 0 } in any) b
        (entry_in b e.0) (in_rows v.rows s b here) (contains_map (entry_in b) (edges_in b.slots) e.0 e.1) in
        let within = is.within (entry_in b e.0).0 (ap is_some there) in
        absurd (omega (arith, within.1, of.source_is))

  -- all vertices' rows have all blocks
  pub all_below : blocks_below v.rows (length (content v).names) ≡ blocks_of v.rows
  all_below = same_blocks (map (row_of v.rows) (range_with_len 0 (length (content v).names))) v.rows
      (λ s. elim (cases_lt s (length (content v).names)) [
        | inl lt ↦ get_or-map-range_with_len (row_of v.rows) 0 (length (content v).names) s s [] lt (omega arith)
        | inr le ↦ get_or_past (map (row_of v.rows) (range_with_len 0 (length (content v).names))) s []
            (omega (arith, length-map-range_with_len (row_of v.rows) 0 (length (content v).names))) ∙ sym (no_row s le)
      ])

rows_counted : (rows : List (List BlockView)) (n : ℕ) → length rows ≤ n
    → length (blocks_of rows) ≡ sum_below n (λ s. length (row_of rows s))
rows_counted [] n few = sym (below_zero n)
rows_counted (row ∷ rows) zero few = absurd (omega arith)
rows_counted (row ∷ rows) (suc n) few =
    let rest = rows_counted rows n (omega arith) in
    let both = length-append row (blocks_of rows) in
    both ∙ (ap (λ k. length row + k) rest ∙ sym (shift n (λ s. length (row_of (row ∷ rows) s))))

pub blocks_counted : (v : VersionView) → IsVersion v
    → length (blocks_of v.rows) ≡ sum_below (length (content v).names) (λ source. length (layout_of v.rows source))
blocks_counted v is =
    let n = length (content v).names in
    let below : List (List BlockView) = map (row_of v.rows) (range_with_len 0 n) in
    let many : length below ≡ n = length-map-range_with_len (row_of v.rows) 0 n in
    ap length (sym (all_below v is))
    ∙ (rows_counted below n (omega (arith, many))
    ∙ same_below n (λ s. length (row_of below s)) (λ source. length (layout_of v.rows source)) (λ s less.
    ap length (get_or-map-range_with_len (row_of v.rows) 0 n s s [] less (omega arith))
    ∙ sym (length-map (row_of v.rows s) shape_of)))
