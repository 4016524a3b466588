use Rattle.std.proofs.{Common.{◌≡◌, ℕ, get_or, sym, ap, ◌∙◌, arith, List}, lemmas.List.{get_or-map, length-map, take_all}}
use Rattle.edge_block.specs.{Slots.old_in, Rows.{OpenBlock, old_in_row}}
use Rattle.edge_block.proofs.OldSlots.{young_more, slots_before}
use Rattle.batch_shards.specs.{RowBlocks.open_of, RowBlocks.opens, declared.row_blocks.RowBlock.RowBlock}
use Rattle.batch_shards.proofs.rows.least_time.Goals as goal

pub loop-here-preserved : goal.loop-here-preserved
loop-here-preserved c =
    let row : List RowBlock = c.args.row.now in
    let k : ℕ = c.loop-here.here-index in
    let h : RowBlock = c.here-item.result in
    let least : ℕ = c.min-least.result in
    let lower = c.min-least.ensures in
    let long = length-map row open_of in
    let there : get_or (opens row) k (open_of h) ≡ open_of h =
    get_or-map open_of row k h (open_of h) c.loop-here-test.true ∙ ap open_of (sym c.here-item.is) in
    young_more c.loop-here.least least (opens row) k (open_of h) (omega (arith, long, c.loop-here-test.true)) c.loop-here.invariant
    (omega (arith, lower))
    (ap (λ (o : OpenBlock). old_in least o.shape.slots) there
    ∙ slots_before least c.least_time.result (open_of h).shape.slots (omega (arith, lower)) c.least_time.ensures)

pub returns : goal.returns
returns c =
    let long = length-map c.args.row.now open_of in
    ap (old_in_row c.loop-here.least) (sym (take_all c.loop-here.here-index (opens c.args.row.now)
    (omega (arith, long, c.loop-here-test.false)))) ∙ c.loop-here.invariant
