use Rattle.std.proofs.Common.{◌≡◌, ◌++◌, ◌+◌, List, get_or, drop, sym, ap, ◌∙◌, append_assoc}
use Rattle.std.proofs.lemmas.List.Elements.{filter_map-append}
use Rattle.std.specs.declared.{sync.Arc.Arc, alloc.Global.Global}
use Rattle.edge_block.specs.{Lending.LentEdge, declared.blocks.Block.Block}
use Rattle.graph_version.specs.Sharing.{block_value, block_values}
use Rattle.version_diff.specs.Differences.{seen_in_block, seen_in, edge_to, not_same_among, if_not_same}
use Rattle.version_diff.specs.declared.rows.EdgeDifference.{EdgeDifference}
use Rattle.version_diff.proofs.Seen.{next_seen}
use Rattle.version_diff.proofs.rows.push_not_same.Goals as goal

pub loop-block-preserved : goal.loop-block-preserved
loop-block-preserved c =
    let f = c.args.view.now in
    let blocks : List (Arc Block Global) = c.args.later.now in
    let i = c.loop-block.block-index in
    let block : Arc Block Global = c.block-item.result in
    let old : List EdgeDifference = c.loop-block.differences.items in
    let others = seen_in f (block_values c.args.earlier.now) in
    let told : List LentEdge → List EdgeDifference = not_same_among c.args.source others in
    let item : block ≡ get_or blocks i block = c.block-item.is in
    let same : block_value (get_or blocks i block) ≡ c.deref.result.now = ap block_value (sym item) ∙ sym c.deref.ensures in
    let piece = seen_in_block f c.deref.result.now in
    let rest = seen_in f (block_values (drop (i + 1) blocks)) in
    let split : seen_in f (block_values (drop i blocks)) ≡ piece ++ rest =
    next_seen f blocks i block c.loop-block-test.true ∙ ap (λ b. seen_in_block f b ++ rest) same in
    ap (λ ds. ds ++ told rest) c.in_ok-push_not_same_of.ensures
    ∙ append_assoc old (told piece) (told rest)
    ∙ ap (λ ds. old ++ ds) (sym (filter_map-append (λ e. if_not_same c.args.source e (edge_to others e.kind e.target)) piece rest))
    ∙ ap (λ es. old ++ told es) (sym split) ∙ c.loop-block.invariant
