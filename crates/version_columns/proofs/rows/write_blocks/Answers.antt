use Rattle.std.proofs.Common.{◌≡◌, ◌++◌, ◌+◌, List, length, get_or, drop, sym, ap, ◌∙◌, arith, length-append}
use Rattle.std.specs.declared.{sync.Arc.Arc, alloc.Global.Global}
use Rattle.edge_block.specs.{Lending.LentEdge, declared.blocks.Block.Block}
use Rattle.graph_version.specs.Sharing.{block_value, block_values}
use Rattle.version_columns.specs.Rows.{block_edges, lent_edges_of, columns, with_edges}
use Rattle.version_columns.proofs.Columns.{next_edges, with_edges-append}
use Rattle.version_columns.proofs.rows.write_blocks.Goals as goal

pub loop-block-preserved : goal.loop-block-preserved
loop-block-preserved c =
    let f = c.args.view.now in
    let blocks : List (Arc Block Global) = c.args.blocks.now in
    let i = c.loop-block.block-index in
    let block : Arc Block Global = c.block-item.result in
    let old = columns c.loop-block.kinds c.loop-block.targets c.loop-block.weights c.loop-block.firsts c.loop-block.recents in
    let new =
    columns c.write_block-at.new.kinds c.write_block-at.new.targets c.write_block-at.new.weights c.write_block-at.new.firsts
    c.write_block-at.new.recents in
    let item : block ≡ get_or blocks i block = c.block-item.is in
    let same : block_value (get_or blocks i block) ≡ c.deref.result.now = ap block_value (sym item) ∙ sym c.deref.ensures in
    let piece = block_edges f c.deref.result.now in
    let rest = lent_edges_of f (block_values (drop (i + 1) blocks)) in
    let split : lent_edges_of f (block_values (drop i blocks)) ≡ piece ++ rest =
    next_edges f blocks i block c.loop-block-test.true ∙ ap (λ b. block_edges f b ++ rest) same in
    let wrote = c.write_block-at.ensures.columns in
    let end = c.write_block-at.ensures.end in
    record {
      written = ap (λ n. with_edges n rest new) end ∙ ap (with_edges (c.loop-block.at + length piece) rest) wrote
          ∙ sym (with_edges-append c.loop-block.at piece rest old)
          ∙ ap (λ (es : List LentEdge). with_edges c.loop-block.at es old) (sym split) ∙ c.loop-block.invariant.written;
      left = omega (arith, end, c.loop-block.invariant.left, ap length split, length-append piece rest);
    }
