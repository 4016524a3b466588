use Rattle.std.proofs.{Common.{◌≡◌, ℕ, List, false, sym, subst, ap, ◌∙◌, arith, All}, lemmas.List.take_all}
use Rattle.std.proofs.lemmas.List.Elements.{All-map, All-more}
use Rattle.std.specs.declared.{sync.Arc.Arc, alloc.Global.Global}
use Rattle.graph_types.proofs.Elements.{bounded_more}
use Rattle.edge_block.specs.{Slots.{BlockView, IsBlock, has_before}, declared.blocks.Block.Block}
use Rattle.edge_block.proofs.OldSlots.{earlier_block}
use Rattle.graph_version.specs.Sharing.{block_value}
use Rattle.graph_version.proofs.Ages.{bounded_row}
use Rattle.graph_version.proofs.row.blocks_since.Goals as goal

pub loop-block-preserved : goal.loop-block-preserved
loop-block-preserved c =
    let u : ℕ = c.block_since.result in
    let least = c.min-since.ensures in
    let value = ap block_value (sym c.block-item.is) ∙ sym c.deref.ensures in
    record {
      since = bounded_more (λ (t : ℕ) (b : Arc Block Global). has_before t (block_value b).slots ≡ false)
          (λ s t b le p. earlier_block s t (block_value b) le p)
          c.min-since.result c.loop-block.since u c.args.blocks.now c.loop-block.block-index c.block-item.result
          c.loop-block-test.true (omega (arith, least)) (omega (arith, least)) c.loop-block.invariant.since
          (ap (λ (b : BlockView). has_before u b.slots) value ∙ c.block_since.ensures.since);
      blocks = All-more (λ (b : Arc Block Global). IsBlock (block_value b)) c.args.blocks.now c.loop-block.block-index
          c.block-item.result c.loop-block-test.true c.loop-block.invariant.blocks (subst IsBlock (sym value) c.block_since.ensures.block);
    }

pub returns-clause-since : goal.returns-clause-since
returns-clause-since c =
    bounded_row block_value c.loop-block.since c.args.blocks.now
    (subst (λ (l : List (Arc Block Global)). All (λ b. has_before c.loop-block.since (block_value b).slots ≡ false) l)
    (take_all c.loop-block.block-index c.args.blocks.now (omega (arith, c.loop-block-test.false))) c.loop-block.invariant.since)

pub returns-clause-blocks : goal.returns-clause-blocks
returns-clause-blocks c =
    All-map IsBlock block_value c.args.blocks.now
    (subst (All (λ (b : Arc Block Global). IsBlock (block_value b)))
    (take_all c.loop-block.block-index c.args.blocks.now (omega (arith, c.loop-block-test.false))) c.loop-block.invariant.blocks)
