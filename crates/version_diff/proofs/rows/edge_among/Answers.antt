use Rattle.std.proofs.Common.{◌≡◌, ◌++◌, ◌+◌, None, List, get_or, drop, sym, ap, ◌∙◌}
use Rattle.std.specs.{Option.{option_or, option_map}, declared.{sync.Arc.Arc, alloc.Global.Global}}
use Rattle.edge_block.specs.{Lending.{lent_edge}, declared.blocks.Block.Block}
use Rattle.graph_version.specs.Sharing.{block_value, block_values}
use Rattle.version_diff.specs.Differences.{seen_in_block, seen_in, edge_to}
use Rattle.version_diff.proofs.Seen.{edge_to-append, next_seen}
use Rattle.version_diff.proofs.rows.edge_among.Goals as goal

pub returns-in-Some : goal.returns-in-Some
returns-in-Some c =
    let f = c.args.view.now in
    let k = c.args.kind.0 in
    let t = c.args.target in
    let blocks : List (Arc Block Global) = c.args.blocks.now in
    let i = c.loop-block.block-index in
    let block : Arc Block Global = c.block-item.result in
    let item : block ≡ get_or blocks i block = c.block-item.is in
    let same : block_value (get_or blocks i block) ≡ c.deref.result.now = ap block_value (sym item) ∙ sym c.deref.ensures in
    let piece = seen_in_block f c.deref.result.now in
    let rest = seen_in f (block_values (drop (i + 1) blocks)) in
    let split : seen_in f (block_values (drop i blocks)) ≡ piece ++ rest =
    next_seen f blocks i block c.loop-block-test.true ∙ ap (λ b. seen_in_block f b ++ rest) same in
    ap (λ o. option_or o (edge_to rest k t)) c.in-Some.ensures
    ∙ sym (edge_to-append piece rest k t) ∙ ap (λ es. edge_to es k t) (sym split) ∙ c.loop-block.invariant

pub loop-block-preserved : goal.loop-block-preserved
loop-block-preserved c =
    let f = c.args.view.now in
    let k = c.args.kind.0 in
    let t = c.args.target in
    let blocks : List (Arc Block Global) = c.args.blocks.now in
    let i = c.loop-block.block-index in
    let block : Arc Block Global = c.block-item.result in
    let item : block ≡ get_or blocks i block = c.block-item.is in
    let same : block_value (get_or blocks i block) ≡ c.deref.result.now = ap block_value (sym item) ∙ sym c.deref.ensures in
    let piece = seen_in_block f c.deref.result.now in
    let rest = seen_in f (block_values (drop (i + 1) blocks)) in
    let split : seen_in f (block_values (drop i blocks)) ≡ piece ++ rest =
    next_seen f blocks i block c.loop-block-test.true ∙ ap (λ b. seen_in_block f b ++ rest) same in
    let none : None ≡ edge_to piece k t = sym (ap (option_map lent_edge) c.in_default.is) ∙ c.edge_of.ensures in
    ap (λ o. option_or o (edge_to rest k t)) none
    ∙ sym (edge_to-append piece rest k t) ∙ ap (λ es. edge_to es k t) (sym split) ∙ c.loop-block.invariant
