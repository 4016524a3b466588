-- What several lists, one behind the other, contain; and the blocks of rows.
use Rattle.std.proofs.Common.{ℕ, zero, suc, inl, inr, List, [], ◌∷◌}
use Rattle.std.proofs.lemmas.List.Elements.{Contains-append_left, Contains-append_right, Contains-append_cases}
use Rattle.std.specs.List.{Contains}
use Rattle.graph_types.proofs.Counts.{Contains-nil}
use Rattle.edge_block.specs.Slots.{BlockView}
use Rattle.graph_version.specs.Rows.{row_of, blocks_of}

-- the blocks of a row are among those of all rows, and each of these is in some row
pub in_rows : (rows : List (List BlockView)) (source : ℕ) (b : BlockView) → Contains (row_of rows source) b
    → Contains (blocks_of rows) b
in_rows [] source b c = absurd (Contains-nil b c)
in_rows (row ∷ rows) zero b c = Contains-append_left row (blocks_of rows) b c
in_rows (row ∷ rows) (suc source) b c = Contains-append_right row (blocks_of rows) b (in_rows rows source b c)

pub row_with : (rows : List (List BlockView)) (b : BlockView) → Contains (blocks_of rows) b
    → (source : ℕ) × Contains (row_of rows source) b
row_with [] b c = absurd (Contains-nil b c)
row_with (row ∷ rows) b c = elim (Contains-append_cases row (blocks_of rows) b c) [
  | inl here ↦ (0, here)
  | inr there ↦ let r = row_with rows b there in (suc r.0, r.1)
]
