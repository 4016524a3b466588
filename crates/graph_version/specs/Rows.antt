-- Rows of blocks, one for each source. They are read by look-up alone: a row past the last is empty, so that
-- empty rows at the end are never seen.
use Rattle.std.specs.Prelude.{◌≡◌, ◌≤◌, ℕ, ◌==◌, List, [], get_or, map, flat_map, if◌then◌else◌}
use Rattle.edge_block.specs.Slots.{BlockView}

-- a source's row
abbrev pub row_of : List (List BlockView) → ℕ → List BlockView
row_of rows source = get_or rows source []

-- the rows after, where this row took the place of the source's row before
abbrev pub Replaces : ℕ → List BlockView → List (List BlockView) → List (List BlockView) → Type 0
Replaces source row before after = (s : ℕ) → row_of after s ≡ (if s == source then row else row_of before s)

-- the blocks of all rows in order of source, and the numbers of blocks
abbrev pub blocks_of : List (List BlockView) → List BlockView
blocks_of rows = flat_map (λ row. row) rows

abbrev pub numbers_of : List BlockView → List ℕ
numbers_of blocks = map (λ b. b.number) blocks

-- no source from one on has a block
abbrev pub IsBlankFrom : ℕ → List (List BlockView) → Type 0
IsBlankFrom from rows = (s : ℕ) → from ≤ s → row_of rows s ≡ []
