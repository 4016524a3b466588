use Rattle.std.proofs.{Common.{◌<◌, ◌++◌, ℕ, List, length, get_or, take, ap, ◌∙◌, arith}, lemmas.Option.slice_get-get_or}
use Rattle.graph_types.proofs.Joined.{one_piece_more}
use Rattle.epoch_core.specs.Versions.{edges_at, edges_of}
use Rattle.epoch_core.proofs.contents.edges_of.Goals as goal

pub loop-block-preserved : goal.loop-block-preserved
loop-block-preserved c =
    let blocks : List ℕ = c.args.blocks.now in
    let i : ℕ = c.loop-block.block-index in
    let lt : i < length blocks = omega arith in
    c.in_ok-extend_from_slice.ensures.items ∙ ap (λ es. es ++ c.edges_at.result.now) c.loop-block.invariant
    ∙ ap (λ es. edges_of c.args.heap.now (take i blocks) ++ es) c.edges_at.ensures
    ∙ one_piece_more (edges_at c.args.heap.now) blocks i (get_or blocks i 0) (slice_get-get_or blocks i 0 lt)
