-- Layouts worked out, of one source and one kind.
use Rattle.std.specs.{Prelude.{◌≡◌, ℕ, pos, List, [], ◌∷◌, map, length}, List.range_with_len}
use Rattle.std.specs.declared.option.Option.TheVariants.{Some}
use Rattle.edge_block.specs.{Slots.edges_in, Rows.{OpenBlock, Shape, row_end, taken_in, dropped_in}, Batches.{Resolved, AtKey}}
use Rattle.edge_block.specs.Batches.{InAll, rows_all, opened_rows}
use Rattle.graph_types.specs.declared.changes.EdgeChange.{EdgeChange, TheVariants.{Insert, Remove}}

abbrev pub change_at : EdgeChange → ℕ → Resolved
change_at change target = AtKey (Some 0) (Some (record { kind = 0; source = 0; target = target })) change

abbrev pub insert_at : ℕ → Resolved
insert_at target = change_at (Insert (pos 1) 1 1) target

abbrev pub remove_at : ℕ → Resolved
remove_at target = change_at Remove target

-- the row of source 0 that operations leave of a row
abbrev pub row_by : List Resolved → List Shape → List OpenBlock
row_by ops row = rows_all ops (opened_rows (λ _. row)) 0

-- which targets each block of a row has, slots rising
abbrev pub targets_in_row : List Shape → List (List ℕ)
targets_in_row row = map (λ b. map (λ e. e.target) (edges_in b.slots)) row

-- an insertion at time 9, where insert_at is one at time 1
abbrev pub insert_late : ℕ → Resolved
insert_late target = change_at (Insert (pos 1) 9 1) target

-- a row's counts at a batch's end: the edges of each block, the blocks taken, and those dropped
pub record Leaves (row : List OpenBlock) (edges : List ℕ) (taken dropped : ℕ) : Type 0 where
  pub edges_are : map (λ b. length (edges_in b.slots)) (row_end row) ≡ edges
  pub taken_are : taken_in row ≡ taken
  pub dropped_are : dropped_in row ≡ dropped

-- the batch that inserts the targets 0 to 32
abbrev pub many : List OpenBlock
many = row_by (map insert_at (range_with_len 0 33)) []

pub record AreExamples : Type 0 where
  -- 33 targets fill one block and begin a second
  pub overflows : Leaves many (32 ∷ 1 ∷ []) 2 0
  -- an edge goes into the first block with room, at the lowest free slot: the second block is not touched
  pub first_with_room : Leaves (row_by (remove_at 0 ∷ insert_at 33 ∷ []) (row_end many)) (32 ∷ 1 ∷ []) 1 1
  pub lowest_free : targets_in_row
      (row_end (row_by (insert_at 3 ∷ remove_at 1 ∷ insert_at 4 ∷ []) (row_end (row_by (map insert_at (range_with_len 0 3)) []))))
      ≡ (0 ∷ 4 ∷ 2 ∷ 3 ∷ []) ∷ []
  -- a touched block without edges is left out, and takes no fresh block
  pub emptied : Leaves (row_by (remove_at 0 ∷ []) (row_end (row_by (insert_at 0 ∷ []) []))) [] 0 1
  -- an edge removed and put anew in one batch: one block taken, one dropped
  pub put_anew : Leaves (row_by (remove_at 0 ∷ insert_at 0 ∷ []) (row_end (row_by (insert_at 0 ∷ []) []))) (1 ∷ []) 1 1
  -- an expiry touches the blocks with an old edge alone, leaves out those that it empties, and keeps each edge of its time
  pub expires_later : Leaves (row_by (insert_late 40 ∷ InAll 9 ∷ []) (row_end many)) (1 ∷ []) 1 2
  pub expires : Leaves (row_by (InAll 9 ∷ []) (row_end (row_by (insert_late 33 ∷ insert_late 34 ∷ []) (row_end many))))
      (2 ∷ []) 1 2
  pub expires_none : Leaves (row_by (InAll 1 ∷ []) (row_end many)) (32 ∷ 1 ∷ []) 0 0
  -- an operation without effect touches no block
  pub untouched_row : Leaves (row_by (remove_at 1 ∷ []) (row_end (row_by (insert_at 0 ∷ []) []))) (1 ∷ []) 0 0
