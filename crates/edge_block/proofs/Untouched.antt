-- Blocks of a row that a batch leaves untouched: none is taken, none dropped.
use Rattle.std.proofs.{Common.{◌≡◌, List, [], ◌∷◌, map, refl, ap, arith}, lemmas.Grind.common_steps}
use Rattle.edge_block.specs.Rows.{IsRow, Shape, row_end, untouched, taken_in, dropped_in}

pub no_row : IsRow []
no_row = record { within = λ k d h. absurd (omega arith); between = tt }

-- a row that is left as it is
pub kept_all : (row : List Shape) → row_end (map untouched row) ≡ row
kept_all [] = refl
kept_all (b ∷ row) = ap (λ xs. b ∷ xs) (kept_all row)

-- a row that is not touched takes and drops nothing
pub none_taken : (row : List Shape) → taken_in (map untouched row) ≡ 0
none_taken [] = refl
none_taken (b ∷ row) = grind (arith, common_steps, none_taken row)

pub none_dropped : (row : List Shape) → dropped_in (map untouched row) ≡ 0
none_dropped [] = refl
none_dropped (b ∷ row) = grind (arith, common_steps, none_dropped row)
