use Rattle.std.proofs.{Common.{◌≡◌, ◌∙◌, length, take, drop, sym, ap, arith}, lemmas.List.length-map}
use Rattle.graph_types.proofs.ListPlaces.{map_take, map_drop}
use Rattle.graph_version.specs.{Rows.row_of, Sharing.block_value, Sharing.block_values}
use Rattle.graph_version.proofs.Rebased.{row_more, all_made}
use Rattle.graph_version.proofs.rebase.rows_over.Goals as goal

pub loop-place-preserved : goal.loop-place-preserved
loop-place-preserved c =
    let left = c.loop-place.left.now in
    let long : length c.row_blocks.result.now ≡ length (row_of c.args.rows.now c.loop-place.place) =
    sym (length-map c.row_blocks.result.now block_value) ∙ ap length c.row_blocks.ensures.blocks in
    row_more c.args.rows.now (block_values c.args.blocks.now) c.loop-place.place c.loop-place.copy c.in_ok-copy.copy
    (block_values left) (block_values c.split_at.result.0.now) (block_values c.split_at.result.1.now) c.loop-place.invariant
    (omega (arith, c.loop-place-test.true, c.len-place-end.ensures.count))
    (ap block_values c.split_at.ensures.front ∙ map_take block_value (length c.row_blocks.result.now) left
    ∙ ap (λ n. take n (block_values left)) long)
    (ap block_values c.split_at.ensures.back ∙ map_drop block_value (length c.row_blocks.result.now) left
    ∙ ap (λ n. drop n (block_values left)) long) c.in_ok-copy.ensures

pub returns : goal.returns
returns c =
    all_made c.args.rows.now (block_values c.args.blocks.now) c.loop-place.place c.loop-place.copy
    (block_values c.loop-place.left.now) c.loop-place.invariant
    (omega (arith, c.loop-place-test.false, c.len-place-end.ensures.count))
