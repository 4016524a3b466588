use Rattle.std.{proofs.{Common.{ap, ◌∙◌}, lemmas.List.map-append}, specs.declared.{sync.Arc.Arc, alloc.Global.Global}}
use Rattle.edge_block.specs.declared.blocks.Block.{Block}
use Rattle.batch_shards.specs.RowBlocks.{block_of, shared_blocks, shared_numbers}
use Rattle.batch_apply.proofs.gathering.add_blocks.Goals as goal

pub returns-clause-dropped : goal.returns-clause-dropped
returns-clause-dropped c =
    ap shared_blocks c.in_ok-add_items.ensures
    ∙ map-append block_of c.args.all.now.dropped.items c.args.left.now.dropped.items

pub returns-clause-unused : goal.returns-clause-unused
returns-clause-unused c =
    ap shared_numbers c.in_ok-add_items-2.ensures
    ∙ map-append (λ (b : Arc Block Global). (block_of b).number) c.args.all.now.unused.items c.args.left.now.unused.items
