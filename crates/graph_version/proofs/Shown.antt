-- Rows that are tied to a graph by look-up list each of its edges once.
use Rattle.std.proofs.Common.{◌≡◌, ℕ, zero, suc, ◌+◌, ◌<◌, ◌≤◌, List, [], ◌∷◌, ◌++◌, map, length, refl, sym, ap, ap₂, ◌∙◌, subst}
use Rattle.std.proofs.{Common.{arith, inl, inr, All, true, None}, lemmas.Bool.{false≢true, Decides.leb_tells}}
use Rattle.std.proofs.lemmas.{Grind.flat_map-append, List.{map-append, Elements.{All-head, All-tail}}}
use Rattle.std.specs.{Option.is_some, FinMap.get}
use Rattle.graph_types.specs.{Graph.Graph, Graph.Key, declared.ids.Edge.Edge}
use Rattle.edge_block.specs.{Slots.{BlockView, edges_in}, Rows.{Shape, shape_of, row_at, row_entries}, Listed.edge_from}
use Rattle.edge_block.{specs.Listed.{edges_in_row, edges_in_rows}, proofs.ListedRows.{listed_once, slot_entry}}
use Rattle.graph_version.specs.Rows.{row_of, blocks_of}
use Rattle.graph_version.specs.{Versions.{layout_of, AreRowsOf}, Edges.{edges_in_block, edges_in_blocks, AreEachOnce}}

-- a row's blocks list what its shapes do
row_listed : (source : ℕ) (row : List BlockView) → All (λ b. b.source ≡ source) row
    → edges_in_blocks row ≡ edges_in_row source (map shape_of row)
row_listed source [] of = refl
row_listed source (b ∷ row) of =
    ap₂ (λ (xs ys : List Edge). xs ++ ys)
    (ap (λ s. map edge_from (map (slot_entry s b.kind) (edges_in b.slots)))
    (All-head (λ (x : BlockView). x.source ≡ source) b row of))
    (row_listed source row (All-tail (λ (x : BlockView). x.source ≡ source) b row of))
    ∙ sym (map-append edge_from (map (slot_entry source b.kind) (edges_in b.slots)) (row_entries source (map shape_of row)))

-- all rows' blocks, the first of them of the source first, list what their layout does
rows_listed : (layout : ℕ → List Shape) (first : ℕ) (rows : List (List BlockView))
    → ((i : ℕ) → layout (first + i) ≡ layout_of rows i) → ((i : ℕ) → All (λ b. b.source ≡ first + i) (row_of rows i))
    → edges_in_blocks (blocks_of rows) ≡ edges_in_rows first (length rows) layout
rows_listed layout first [] same of = refl
rows_listed layout first (row ∷ rows) same of =
    let at : first + 0 ≡ first = omega arith in
    flat_map-append edges_in_block row (blocks_of rows)
    ∙ ap₂ (λ (xs ys : List Edge). xs ++ ys)
    (row_listed first row (λ k d lt. of 0 k d lt ∙ at) ∙ ap (edges_in_row first) (sym (same 0) ∙ ap layout at))
    (rows_listed layout (first + 1) rows (λ i. ap layout (next i) ∙ same (suc i)) (λ i k d lt. of (suc i) k d lt ∙ sym (next i)))
  where
    next : (i : ℕ) → first + 1 + i ≡ first + suc i
    next i = omega arith

row_past : (rows : List (List BlockView)) (i : ℕ) → length rows ≤ i → row_of rows i ≡ []
row_past [] i past = refl
row_past (row ∷ rows) zero past = absurd (omega arith)
row_past (row ∷ rows) (suc i) past = row_past rows i (omega arith)

-- the blocks of rows that are tied to a graph by look-up have each of its edges once, and no others
pub rows_each_once : (g : Graph) (rows : List (List BlockView)) → AreRowsOf g rows
    → AreEachOnce (edges_in_blocks (blocks_of rows)) g
rows_each_once g rows is =
    subst (λ es. AreEachOnce es g)
    (sym (rows_listed (layout_of rows) 0 rows (λ i. ap (layout_of rows) (first i))
    (λ i k d lt. (is.blocks i k d lt).source_is ∙ sym (first i))))
    (listed_once (layout_of rows) g.edges (length rows) is.layout below) where
      first : (i : ℕ) → 0 + i ≡ i
      first i = omega arith

      below : (k : Key) → is_some (get g.edges k) ≡ true → k.source < length rows
      below k some = elim (leb_tells (length rows) k.source) [
        | inl past ↦
            let none : get g.edges k ≡ None =
            sym (is.layout.shows k)
            ∙ ap (λ (row : List BlockView). row_at (map shape_of row) (k.kind, k.target)) (row_past rows k.source past.1) in
            absurd (false≢true (sym (ap is_some none) ∙ some))
        | inr lt ↦ lt.1
      ]
