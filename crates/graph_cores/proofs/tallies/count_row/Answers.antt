use Rattle.std.proofs.Common.{◌≡◌, ◌∙◌, ◌+◌, List, [], get_or, drop, ap, sym, subst, arith}
use Rattle.std.{proofs.lemmas.List.drop_all, specs.declared.sync.Arc.Arc, specs.declared.alloc.Global.Global}
use Rattle.edge_block.specs.{Slots.BlockView, declared.blocks.Block.Block}
use Rattle.graph_version.specs.Sharing.{block_value, block_values}
use Rattle.graph_cores.specs.Tallies.{shown_block, shown_edges, HasTallyRoom, Counts}
use Rattle.graph_cores.proofs.{Blocks.next_block, Parts.begun_room, Parts.begun_more, Parts.begun_end}
use Rattle.graph_cores.proofs.tallies.count_row.Goals as goal

pub count_block-requires : goal.count_block-requires
count_block-requires c =
    let f = c.args.view.now in
    let blocks : List (Arc Block Global) = c.args.blocks.now in
    let i = c.loop-block.block-index in
    let block : Arc Block Global = c.block-item.result in
    let item : block ≡ get_or blocks i block = c.block-item.is in
    let same : block_value (get_or blocks i block) ≡ c.deref.result.now = ap block_value (sym item) ∙ sym c.deref.ensures in
    subst (λ (b : BlockView). HasTallyRoom f (shown_block f b) c.loop-block.table) same
    (begun_room f (shown_edges f (block_values blocks)) (shown_edges f (block_values (drop i blocks)))
    (shown_block f (block_value (get_or blocks i block))) (shown_edges f (block_values (drop (i + 1) blocks)))
    c.args.table.now c.loop-block.table (next_block f blocks i block c.loop-block-test.true) c.loop-block.auto.table c.requires
    c.loop-block.invariant)

pub loop-block-preserved : goal.loop-block-preserved
loop-block-preserved c =
    let f = c.args.view.now in
    let blocks : List (Arc Block Global) = c.args.blocks.now in
    let i = c.loop-block.block-index in
    let block : Arc Block Global = c.block-item.result in
    let item : block ≡ get_or blocks i block = c.block-item.is in
    let same : c.deref.result.now ≡ block_value (get_or blocks i block) = c.deref.ensures ∙ ap block_value item in
    let counts =
    subst (λ (b : BlockView). Counts f (shown_block f b) c.loop-block.table c.count_block.new.table) same
    c.count_block.ensures in
    begun_more f (shown_edges f (block_values blocks)) (shown_edges f (block_values (drop i blocks)))
    (shown_block f (block_value (get_or blocks i block))) (shown_edges f (block_values (drop (i + 1) blocks)))
    c.args.table.now c.loop-block.table c.count_block.new.table
    (next_block f blocks i block c.loop-block-test.true) counts c.loop-block.invariant

pub returns : goal.returns
returns c =
    let f = c.args.view.now in
    let blocks : List (Arc Block Global) = c.args.blocks.now in
    let i = c.loop-block.block-index in
    let end : drop i blocks ≡ [] = drop_all i blocks (omega arith) in
    begun_end f (shown_edges f (block_values blocks))
    (shown_edges f (block_values (drop i blocks))) c.args.table.now c.loop-block.table
    (ap (λ (bs : List (Arc Block Global)). shown_edges f (block_values bs)) end) c.loop-block.invariant
