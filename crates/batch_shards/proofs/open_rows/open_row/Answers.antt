use Rattle.std.proofs.Common.{List, refl, subst, arith}
use Rattle.edge_block.proofs.OldSlots.{none_at_start}
use Rattle.batch_shards.specs.{RowBlocks.opens, Notes.IsNoted, declared.row_blocks.RowBlock.RowBlock}
use Rattle.batch_shards.proofs.open_rows.open_row.Goals as goal

pub returns-clause-of_source : goal.returns-clause-of_source
returns-clause-of_source c = record {
  source_is = refl;
  own = c.loop-block.invariant.own;
  hinted = record {
    noted = subst (λ (row : List RowBlock). IsNoted c.in_ok-notes.notes row) c.as_slice.ensures.value c.in_ok-notes.ensures;
    room = record { full = λ i d below within. absurd (omega arith) };
    young = none_at_start (opens c.loop-block.blocks.items);
  };
}
