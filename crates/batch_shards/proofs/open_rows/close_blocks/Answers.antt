use Rattle.std.proofs.Common.{ℕ, ◌++◌, ◌∷◌, [], List, ap, sym, arith, ◌∙◌, length-append, map}
use Rattle.std.proofs.lemmas.{List.map-append, Iterator.{Adapters.YieldsList-from_vec, Consumers.YieldsList-turn}}
use Rattle.graph_types.proofs.{Joined.one_piece, Prefixes.behind}
use Rattle.edge_block.specs.Slots.{BlockView}
use Rattle.batch_shards.specs.Closing.{after_here, written_here, dropped_here, unused_here, written_of}
use Rattle.batch_shards.specs.declared.row_blocks.RowBlock.{RowBlock}
use Rattle.batch_shards.proofs.open_rows.close_blocks.Goals as goal

-- room was made for all blocks at once
pub close_block-requires : goal.close_block-requires
close_block-requires c =
    let start = c.into_iter-block-iterator.ensures.into_iter_gives in
    let turn = YieldsList-turn (YieldsList-from_vec {s = c.into_iter-block-iterator.result} c.args.blocks.items start.0
    (start.1 ∙ c.args.blocks.ok.0))
    c.loop-block.yielded c.loop-block.block-iterator c.loop-block.yielded_by c.next.result c.next.new.self
    c.in-Some.block c.in-Some.is c.next.ensures.steps in
    omega (arith, turn.0, c.loop-block.invariant.few, c.loop-block.invariant.room)

pub loop-block-preserved : goal.loop-block-preserved
loop-block-preserved c =
    let done : List RowBlock = c.loop-block.yielded in
    let block : RowBlock = c.in-Some.block in
    let number : BlockView → ℕ = λ b. b.number in
    let more = length-append done (block ∷ []) in
    record {
      few = omega (arith, more, c.in_ok-close_block.ensures.grows, c.loop-block.invariant.few);
      room = omega (arith, c.close_block.ensures.capacity, c.loop-block.invariant.room);
      row = c.in_ok-close_block.ensures.row ∙ ap (λ l. l ++ after_here block) c.loop-block.invariant.row
          ∙ sym (one_piece after_here done block);
      taken = behind _ (map number (written_of done)) (map number (written_here block)) _ _ _ c.in_ok-close_block.ensures.taken
          c.loop-block.invariant.taken (ap (map number) (one_piece written_here done block)
          ∙ map-append number (written_of done) (written_here block));
      dropped = behind _ _ _ _ _ _ c.in_ok-close_block.ensures.dropped c.loop-block.invariant.dropped
          (one_piece dropped_here done block);
      unused = behind _ _ _ _ _ _ c.in_ok-close_block.ensures.unused c.loop-block.invariant.unused
          (one_piece unused_here done block);
    }
