-- Edges in as few blocks as they need.
use Rattle.std.specs.Prelude.{◌≡◌, ℕ, List, AllPairs, false}
use Rattle.std.specs.List.{list_any}
use Rattle.edge_block.specs.{Slots.{BlockView, is_free_slot}}
use Rattle.graph_version.specs.Rows.{row_of}

-- of a row's blocks of one kind, all but the last are full
abbrev pub IsPackedRow : List BlockView → Type 0
IsPackedRow row = AllPairs (λ a b. a.kind ≡ b.kind → list_any is_free_slot a.slots ≡ false) row

abbrev pub ArePacked : List (List BlockView) → Type 0
ArePacked rows = (source : ℕ) → IsPackedRow (row_of rows source)
