use Rattle.std.proofs.{Common.sym, Common.arith, Common.◌∙◌, Common.ap, lemmas.Bool.true≢false}
use Rattle.graph_types.proofs.Searches.{position_is, position_none}
use Rattle.batch_shards.specs.declared.row_blocks.RowBlock.{RowBlock}
use Rattle.batch_shards.proofs.RowSteps.{at_room}
use Rattle.batch_shards.proofs.room.Room.first.Goals as goal

pub returns-then-has_room : goal.returns-then-has_room
returns-then-has_room c =
    let h : RowBlock = c.index-row-place.result in
    let p = at_room c.args.kind.0 in
    sym (position_is p c.args.row.now c.loop-place.place h (omega arith)
    (ap p (sym c.index-row-place.is) ∙ sym c.if-has_room.ensures)
    (λ k below. c.loop-place.invariant k h below (omega arith)))

pub returns : goal.returns
returns c =
    sym (position_none (at_room c.args.kind.0) c.args.row.now
    (λ i d lt has. true≢false (sym has ∙ c.loop-place.invariant i d (omega arith) lt)))
