-- Rows by when their edges were last touched.
use Rattle.std.specs.{Prelude.{◌≡◌, ◌+◌, ◌<◌, ◌≤◌, ℕ, List, length, All, Bool, true, false, count_by}, List.list_any}
use Rattle.std.specs.declared.option.Option.{Option, TheVariants.{None, Some}}
use Rattle.graph_types.specs.declared.ids.VertexId.{VertexId}
use Rattle.edge_block.specs.Slots.{BlockView, has_before}
use Rattle.graph_version.specs.Rows.{row_of}

-- whether a row has a block with an edge that was last touched before a time
abbrev pub is_old_row : ℕ → List BlockView → Bool
is_old_row time row = list_any (λ b. has_before time b.slots) row

-- how many of a row's blocks have one
abbrev pub old_blocks : ℕ → List BlockView → ℕ
old_blocks time row = count_by (λ b. has_before time b.slots) row

-- no row is one with an edge from before a time
abbrev pub AreSince : ℕ → List (List BlockView) → Type 0
AreSince time rows = All (λ row. is_old_row time row ≡ false) rows

-- so many rows from a place on have no edge from before a time; they are none only where the row at the place has one
pub record AreYoung (time : ℕ) (rows : List (List BlockView)) (place many : ℕ) : Type 0 where
  pub within : place + many ≤ length rows
  pub young : (s : ℕ) → place ≤ s → s < place + many → is_old_row time (row_of rows s) ≡ false
  pub old : many ≡ 0 → is_old_row time (row_of rows place) ≡ true

-- the first source, from one on, whose row has an edge from before a time
abbrev pub IsNextOld : ℕ → List (List BlockView) → ℕ → Option VertexId → Type 0
IsNextOld time rows from None = (s : ℕ) → from ≤ s → is_old_row time (row_of rows s) ≡ false
IsNextOld time rows from (Some source) = (from ≤ source.0) × (is_old_row time (row_of rows source.0) ≡ true)
    × ((s : ℕ) → from ≤ s → s < source.0 → is_old_row time (row_of rows s) ≡ false)
