use Rattle.std.proofs.Common.{◌≡◌, ◌%◌, ◌^◌, List, refl, sym, ap, subst, arith}
use Rattle.edge_block.specs.Rows.{old_in_row}
use Rattle.edge_block.proofs.OldSlots.{young_stays, young_before}
use Rattle.batch_shards.specs.{RowBlocks.opens, declared.row_blocks.RowBlock.RowBlock}
use Rattle.batch_shards.proofs.ExpiringRows.{noted_since}
use Rattle.batch_shards.proofs.open_rows.expire_row.Goals as goal

pub returns-clause-of_source : goal.returns-clause-of_source
returns-clause-of_source c = record {
  source_is = refl;
  own = c.in_ok-count.ensures.own c.args.row.now.source.0 c.requires.of_source.own;
  hinted = record {
    noted = noted_since c.args.time c.args.row.now.hints.notes c.args.row.now.blocks.items c.expire_blocks.new.row.items
        c.in_ok-count.ensures.row c.requires.of_source.hinted.noted;
    room = record { full = λ i d below within. absurd (omega arith) };
    young = subst (λ (row : List RowBlock). old_in_row c.least_time-row.result (opens row) ≡ 0) c.as_slice.ensures.value
        c.least_time-row.ensures;
  };
}

pub returns-then-time-row-clause-row : goal.returns-then-time-row-clause-row
returns-then-time-row-clause-row c = sym (young_stays c.args.time (opens c.args.row.now.blocks.items)
    (young_before c.args.time c.args.row.now.hints.since (opens c.args.row.now.blocks.items) (omega arith)
    c.requires.of_source.hinted.young))

pub returns-then-time-row-clause-count : goal.returns-then-time-row-clause-count
returns-then-time-row-clause-count c = sym (ap (λ n. n % 2 ^ 64)
    (young_before c.args.time c.args.row.now.hints.since (opens c.args.row.now.blocks.items) (omega arith)
    c.requires.of_source.hinted.young))
