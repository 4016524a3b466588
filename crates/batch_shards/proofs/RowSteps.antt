-- One operation on a row of the program's blocks.
use Rattle.std.proofs.Common.{◌≡◌, ℕ, ◌<◌, Bool, true, false, cond, List, [], ◌∷◌, ◌++◌, length, get_or, set, count_by}
use Rattle.std.proofs.{Common.{refl, sym, ap, ◌∙◌, arith}, lemmas.List.map-append}
use Rattle.std.{proofs.lemmas.{List.Quantifiers.position-Some, Bool.and_parts}, specs.List.{list_any, position}}
use Rattle.std.specs.{Option.{is_some, option_or}, declared.{option.Option.{Option, TheVariants.{None, Some}}, sync.Arc.Arc}}
use Rattle.std.{specs.declared.{alloc.Global.Global, vec.Vec.Vec}, proofs.lemmas.Grind.common_steps}
use Rattle.graph_types.specs.{Graph.Stamp, Step.{stamp_after, outcome_at}}
use Rattle.graph_types.specs.declared.changes.EdgeChange.{EdgeChange}
use Rattle.graph_types.proofs.{Joined.flat_map-set, Searches.{list_any-map, one_passes, none_passes}, Sums.count_by-set}
use Rattle.edge_block.{proofs.{Entries.list_any-holds, Firsts.first_some-by_any}, specs.Slots.{Slot, holds, stamp_at, put_slot}}
use Rattle.edge_block.specs.{Slots.{has_room_for, first_some, at_first}, Rows.{OpenBlock, has_edge, has_room, open_at}}
use Rattle.edge_block.specs.Rows.{edge_at, touch, touches, put_edge, set_edge, new_block, change_row}
use Rattle.edge_block.specs.declared.blocks.Block.{Block}
use Rattle.edge_block.proofs.SlotTargets.{edge_kind, first_has, first_changed}
use Rattle.batch_shards.specs.{RowBlocks.{block_of, open_of, opens, had_here, own_here, set_slot, IsChanged}, OpenRows.KeepsHere}
use Rattle.batch_shards.specs.{OpenRows.KeepsIn, declared.row_blocks.RowBlock.RowBlock}

abbrev pub at_edge : ℕ → ℕ → RowBlock → Bool
at_edge kind target h = has_edge (kind, target) (open_of h)

abbrev pub at_room : ℕ → RowBlock → Bool
at_room kind h = has_room kind (open_of h).shape

-- what is found in a row as it was read is found in the row
pub placed : (p : RowBlock → Bool) {read row : List RowBlock} {place : Option ℕ} → read ≡ row → place ≡ position p read
    → position p row ≡ place
placed p same found = ap (position p) (sym same) ∙ sym found

pub edge_target : (kind target : ℕ) (h : RowBlock) → at_edge kind target h ≡ true
    → list_any (holds target) (block_of h.block).slots ≡ true
edge_target kind target h is = grind (arith, common_steps, list_any-holds, edge_kind)

module _ (kind target : ℕ) (row : List RowBlock) where
  module _ (i : ℕ) (d : RowBlock) (found : position (at_edge kind target) row ≡ Some i) where
    abbrev here : RowBlock
    here = get_or row i d

    stands : at_edge kind target here ≡ true
    stands = (position-Some (at_edge kind target) row i d found).1

    pub found_within : i < length row
    found_within = (position-Some (at_edge kind target) row i d found).0

    -- the row's edge is the block's
    pub found_edge : edge_at (opens row) (kind, target) ≡ stamp_at (block_of here.block).slots target
    found_edge = mapped row ∙ first_has (λ h. open_at (open_of h) (kind, target)) row i d found
        ∙ edge_kind kind target (open_of here) stands where
          mapped : (row : List RowBlock) → edge_at (opens row) (kind, target)
              ≡ first_some (λ h. open_at (open_of h) (kind, target))
              row
          mapped [] = refl
          mapped (h ∷ row) = ap (option_or (open_at (open_of h) (kind, target))) (mapped row)

    pub found_some : is_some (stamp_at (block_of here.block).slots target) ≡ true
    found_some = ap is_some (sym (edge_kind kind target (open_of here) stands)) ∙ stands

    found_any : list_any (has_edge (kind, target)) (opens row) ≡ true
    found_any = list_any-map open_of (has_edge (kind, target)) row ∙ one_passes (at_edge kind target) row i d found

    abbrev at_first_of : Option Stamp → List OpenBlock
    at_first_of o = at_first (has_edge (kind, target)) (touch (set_slot target o)) (opens row)

    sets : (o : Option Stamp) → set_edge (kind, target) o (opens row) ≡ at_first_of o
    sets o = grind (arith, common_steps, found_any)

    -- the operation changes the block where the edge stands
    pub found_changed : (change : EdgeChange) (y : RowBlock) → IsChanged change target here y
        → change_row change (kind, target) (opens row) ≡ opens (set row i y)
    found_changed change y is =
        let before : Option Stamp = stamp_at (block_of here.block).slots target in
        rw found_edge
        (elim (touches (outcome_at change before)) as
        (λ b. open_of y ≡ cond b (touch (set_slot target (stamp_after change before)) (open_of here)) (open_of here)
        → cond b (set_edge (kind, target) (stamp_after change before) (opens row)) (opens row) ≡ opens (set row i y)) [
          | true ↦ λ e. sets (stamp_after change before)
              ∙ first_changed open_of (has_edge (kind, target)) (touch (set_slot target (stamp_after change before))) row i y d
              found e
          | false ↦ λ e. sym (Rattle.std.proofs.Math.Seq.map-set_same open_of row i y d e)
        ] is.shown)

  module _ (none : position (at_edge kind target) row ≡ None) where
    pub absent_any : list_any (has_edge (kind, target)) (opens row) ≡ false
    absent_any = list_any-map open_of (has_edge (kind, target)) row ∙ none_passes (at_edge kind target) row none

    pub absent_edge : edge_at (opens row) (kind, target) ≡ None
    absent_edge = first_some-by_any (λ h. open_at h (kind, target)) (opens row) absent_any

-- an edge goes into the first block with room
pub put_into : (kind : ℕ) (e : Slot) (row : List RowBlock) (i : ℕ) (y d : RowBlock)
    → list_any (has_edge (kind, e.target)) (opens row) ≡ false → position (at_room kind) row ≡ Some i
    → open_of y ≡ touch (put_slot e) (open_of (get_or row i d)) → put_edge kind e (opens row) ≡ opens (set row i y)
put_into kind e row i y d absent room is = grind (arith, common_steps, list_any-map, one_passes, first_changed)

-- else into a block that is appended
pub put_last : (kind : ℕ) (e : Slot) (row : List RowBlock) (y : RowBlock)
    → list_any (has_edge (kind, e.target)) (opens row) ≡ false → position (at_room kind) row ≡ None
    → open_of y ≡ new_block kind e → put_edge kind e (opens row) ≡ opens (row ++ y ∷ [])
put_last kind e row y absent room is = grind (arith, common_steps, list_any-map, none_passes, map-append)

-- a block with room takes an edge
pub room_is : (kind target : ℕ) (row : List RowBlock) (i : ℕ) (d : RowBlock) → position (at_room kind) row ≡ Some i
    → has_room_for target (block_of (get_or row i d).block).slots ≡ true
room_is kind target row i d room = grind (arith, common_steps, position-Some, and_parts)

pub room_within : (kind : ℕ) (row : List RowBlock) (i : ℕ) (d : RowBlock) → position (at_room kind) row ≡ Some i → i < length row
room_within kind row i d room = (position-Some (at_room kind) row i d room).0

-- a row keeps what its changed block keeps
pub keeps_set : (most : ℕ) (row : List RowBlock) (i : ℕ) (y d : RowBlock) (fresh left : Vec (Arc Block Global) Global)
    → i < length row → d ≡ get_or row i d → KeepsHere most d fresh y left → KeepsIn most row fresh (set row i y) left
keeps_set most row i y d fresh left lt is keeps = record {
  had = flat_map-set had_here row i y d lt (keeps.had ∙ ap had_here is);
  numbers = λ q.
      let one = count_by-set own_here q row i y d lt in
      let here = keeps.numbers q in
      let same = ap (λ h. count_by q (own_here h)) is in
      omega arith;
  few = keeps.few;
}
