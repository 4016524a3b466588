use Rattle.std.proofs.Common.{◌≡◌, true, get_or, length, arith, [], ◌∷◌, ◌++◌, sym, ap, ◌∙◌, subst, w64, rules}
use Rattle.std.proofs.lemmas.Int.{to_z-of_z}
use Rattle.graph_types.proofs.ChangedContents.{weight_fits_word}
use Rattle.edge_block.specs.{Slots.{Slot, has_room_for, edge_slot, put_slot}, Rows.touch}
use Rattle.batch_shards.specs.{RowBlocks.{block_of, open_of, IsTouched}, declared.row_blocks.RowBlock.RowBlock, Notes.Gains}
use Rattle.batch_shards.{specs.Room.IsFull, proofs.{Rooms.{full_set, full_before, full_all}, RowSteps.{at_room, placed}}}
use Rattle.batch_shards.proofs.{RowSteps.{put_into, put_last, room_is, room_within, keeps_set}, Noting.{gains_put, gains_push}}
use Rattle.batch_shards.proofs.Noting.{put_block_targets, new_block_targets}
use Rattle.batch_shards.proofs.rows.add_edge.Goals as goal

pub put-requires-clause-room : goal.put-requires-clause-room
put-requires-clause-room c =
    let found = placed (at_room c.args.kind.0) c.as_slice.ensures.value c.in-Some.ensures in
    subst (λ (h : RowBlock). has_room_for c.args.target (block_of h.block).slots ≡ true) (sym c.index_mut.ensures.value)
    (room_is c.args.kind.0 c.args.target c.args.row.now.items c.in-Some.place c.index_mut.result.now found)

pub returns-in_ok-put-in-Some : goal.returns-in_ok-put-in-Some
returns-in_ok-put-in-Some c =
    let place = c.in-Some.place in
    let row = c.args.row.now.items in
    let found = placed (at_room c.args.kind.0) c.as_slice.ensures.value c.in-Some.ensures in
    let within = room_within c.args.kind.0 row place c.index_mut.result.now found in
    let e : Slot = edge_slot c.args.target c.args.marks.weight c.args.marks.first c.args.marks.recent in
    let h : RowBlock = c.index_mut.result.now in
    let t : IsTouched (put_slot e) h c.put.new.self =
    (rw (to_z-of_z w64 c.args.marks.weight (weight_fits_word c.args.marks.weight c.requires.marks.weight)) at
    c.in_ok-put-in-Some.ensures.touched) in
    record {
      row = sym (put_into c.args.kind.0 e row place c.put.new.self h c.requires.absent found
          (t.shown ∙ ap (λ (x : RowBlock). touch (put_slot e) (open_of x)) c.index_mut.ensures.value));
      gains = gains_put c.args.target place row c.put.new.self h within
          (λ other now. put_block_targets e (get_or row place h) c.put.new.self other
          (subst (λ (x : RowBlock). IsTouched (put_slot e) x c.put.new.self) c.index_mut.ensures.value t) now);
      full = full_set c.args.kind.0 place place row c.put.new.self (full_before c.args.kind.0 place row h found)
          (λ below within. absurd (omega arith));
      own = search rules;
      keeps = keeps_set 1 row place c.put.new.self h c.args.fresh.now c.put.new.fresh within c.index_mut.ensures.value
          c.in_ok-put-in-Some.ensures.keeps;
    }

pub returns-in_ok-push-in-None-clause-gains : goal.returns-in_ok-push-in-None-clause-gains
returns-in_ok-push-in-None-clause-gains c =
    let e : Slot = edge_slot c.args.target c.args.marks.weight c.args.marks.first c.args.marks.recent in
    let row = c.args.row.now.items in
    let y : RowBlock = c.in_ok-block-in-None.block in
    let end : length row ≡ c.len-place.result = omega (arith, c.len-place.ensures) in
    rw c.in_ok-push-in-None.ensures.items
    (subst (λ n. Gains c.args.target n row (row ++ y ∷ [])) end
    (gains_push c.args.target row y
    (λ t now. new_block_targets c.args.kind.0 e y t c.in_ok-block-in-None.ensures.shown now)))

pub returns-in_ok-push-in-None-clause-full : goal.returns-in_ok-push-in-None-clause-full
returns-in_ok-push-in-None-clause-full c =
    let row = c.args.row.now.items in
    let y : RowBlock = c.in_ok-block-in-None.block in
    let none = placed (at_room c.args.kind.0) c.as_slice.ensures.value c.in-None.ensures in
    let end : length row ≡ c.len-place.result = omega (arith, c.len-place.ensures) in
    rw c.in_ok-push-in-None.ensures.items
    (subst (λ n. IsFull c.args.kind.0 n (row ++ y ∷ [])) end (full_all c.args.kind.0 row y none))

pub returns-in_ok-push-in-None-clause-row : goal.returns-in_ok-push-in-None-clause-row
returns-in_ok-push-in-None-clause-row c =
    let none = placed (at_room c.args.kind.0) c.as_slice.ensures.value c.in-None.ensures in
    rw c.in_ok-push-in-None.ensures.items
    (sym (put_last c.args.kind.0 (edge_slot c.args.target c.args.marks.weight c.args.marks.first c.args.marks.recent)
    c.args.row.now.items _ c.requires.absent none
    c.in_ok-block-in-None.ensures.shown))
