use Rattle.std.proofs.{Common.{◌∷◌, ◌++◌, [], ℕ, List, ap, ap₂, sym, ◌∙◌, arith}, lemmas.List.map_more}
use Rattle.std.specs.declared.{sync.Arc.Arc, alloc.Global.Global}
use Rattle.edge_block.specs.{Slots.BlockView, declared.blocks.Block.Block}
use Rattle.batch_shards.specs.RowBlocks.{block_of}
use Rattle.desk.proofs.applying.numbers_in.Goals as goal

pub loop-block-preserved : goal.loop-block-preserved
loop-block-preserved c =
    let number : Arc Block Global → ℕ = λ b. (block_of b).number in
    c.in_ok-push.ensures.items
    ∙ ap₂ (λ (ns : List ℕ) (n : ℕ). ns ++ n ∷ []) c.loop-block.invariant
    (c.number.ensures ∙ ap (λ (b : BlockView). b.number) c.deref.ensures ∙ ap number c.block-item.is)
    ∙ sym (map_more number c.args.blocks.now c.loop-block.block-index c.block-item.result (omega arith))
