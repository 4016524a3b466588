-- Where a row may have room, and what a change leaves of it.
use Rattle.std.proofs.Common.{◌≡◌, ℕ, ◌<◌, false, List, [], ◌∷◌, ◌++◌, length, get_or, set, sym, ap, ◌∙◌, arith}
use Rattle.std.proofs.lemmas.{Bool.{true≢false, false_from_ne_true, eqb-true, eqb-false}, List.get_or-set_same}
use Rattle.std.proofs.{lemmas.List.{get_or-set_other, get_or_append_left, Quantifiers.position-Some}, Math.ListN.length-set}
use Rattle.std.{specs.{List.position, declared.option.Option.TheVariants.{None, Some}}, proofs.lemmas.Grind.common_steps}
use Rattle.batch_shards.{specs.Room.IsFull, specs.declared.row_blocks.RowBlock.RowBlock, proofs.RowSteps.at_room}

-- the row behind a change of one block, at which the test on its room fails where it matters
pub full_set : (kind place p : ℕ) (row : List RowBlock) (y : RowBlock) → IsFull kind place row
    → (p < place → p < length row → at_room kind y ≡ false) → IsFull kind place (set row p y)
full_set kind place p row y is fails =
    grind (arith, common_steps, length-set, at_room, eqb-true, get_or-set_same, get_or-set_other, eqb-false)

-- no block before the first with room has room
pub full_before : (kind p : ℕ) (row : List RowBlock) (d : RowBlock) → position (at_room kind) row ≡ Some p → IsFull kind p row
full_before kind p row d found = record {
  full = λ i x below within. (position-Some (at_room kind) row p x found).2 i below;
}

-- none has where there is no first
pub full_all : (kind : ℕ) (row : List RowBlock) (y : RowBlock) → position (at_room kind) row ≡ None
    → IsFull kind (length row) (row ++ y ∷ [])
full_all kind row y none = record {
  full = λ i d below within.
      ap (at_room kind) (get_or_append_left row (y ∷ []) d i below)
      ∙ false_from_ne_true (at_room kind (get_or row i d))
      (λ has. true≢false (sym (Rattle.edge_block.proofs.Firsts.list_any_at (at_room kind) row i d below has)
      ∙ Rattle.graph_types.proofs.Searches.none_passes (at_room kind) row none));
}
