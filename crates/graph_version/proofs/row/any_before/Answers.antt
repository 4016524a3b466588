use Rattle.std.proofs.{Common.{ℕ, List, sym, ap, ◌∙◌, arith}, lemmas.List.{get_or-map, length-map, Folds.list_any_at}}
use Rattle.std.specs.declared.{sync.Arc.Arc, alloc.Global.Global}
use Rattle.edge_block.specs.{Slots.BlockView, Slots.has_before, declared.blocks.Block.Block}
use Rattle.graph_version.specs.Sharing.{block_value, block_values}
use Rattle.graph_version.proofs.row.any_before.Goals as goal

pub returns-then-has_before : goal.returns-then-has_before
returns-then-has_before c =
    let blocks : List (Arc Block Global) = c.args.blocks.now in
    let k : ℕ = c.loop-block.block-index in
    let h : Arc Block Global = c.block-item.result in
    let long = length-map blocks block_value in
    sym (list_any_at (λ (b : BlockView). has_before c.args.time b.slots) (block_values blocks) k (block_value h)
    (omega (arith, long, c.loop-block-test.true))
    (ap (λ (b : BlockView). has_before c.args.time b.slots) (get_or-map block_value blocks k h (block_value h) c.loop-block-test.true
    ∙ ap block_value (sym c.block-item.is) ∙ sym c.deref.ensures) ∙ sym c.has_before.ensures ∙ c.if-has_before.true))
