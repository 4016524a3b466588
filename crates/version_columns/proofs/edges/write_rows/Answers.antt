use Rattle.std.proofs.Common.{◌≡◌, ◌+◌, ◌-◌, ◌++◌, suc, inl, length, replicate, sym, ap, ◌∙◌, arith, length-append}
use Rattle.std.proofs.lemmas.List.{length-map}
use Rattle.version_columns.proofs.Columns.{rows_from-more, sources_from-more, sources_long, with_edges-append, with_values-append}
use Rattle.graph_version.specs.Sharing.{block_value, block_values}
use Rattle.graph_version.proofs.BlockCounts.{few_in_row}
use Rattle.version_columns.specs.Rows.{columns, lent_edges_of, row_edges, lent_rows_from, sources_from, with_edges, with_values}
use Rattle.version_columns.proofs.edges.write_rows.Goals as goal

pub count_blocks-requires : goal.count_blocks-requires
count_blocks-requires c =
    omega (arith, few_in_row c.args.version.now c.loop-next.next c.row_blocks-blocks.ensures.version, ap length c.row_blocks-blocks.ensures.blocks, length-map c.row_blocks-blocks.result.now block_value)

pub loop-next-preserved : goal.loop-next-preserved
loop-next-preserved c =
    let f = c.args.view.now in
    let v = c.args.version.now in
    let source = c.args.source in
    let next = c.loop-next.next in
    let so_far = c.loop-next.invariant in
    let n = next - source in
    let old = columns c.args.kinds.now c.args.targets.now c.args.weights.now c.args.firsts.now c.args.recents.now in
    let here : source + n ≡ next = omega (arith, so_far.onward) in
    let more : next + 1 - source ≡ suc n = omega (arith, so_far.onward) in
    let row : lent_edges_of f (block_values c.row_blocks-blocks.result.now) ≡ row_edges f v next = ap (lent_edges_of f) c.row_blocks-blocks.ensures.blocks in
    let rows : lent_rows_from f v source (next + 1 - source) ≡ lent_rows_from f v source n ++ row_edges f v next =
    ap (lent_rows_from f v source) more ∙ rows_from-more f v source n ∙ ap (λ s. lent_rows_from f v source n ++ row_edges f v s) here in
    let sources : sources_from f v source (next + 1 - source) ≡ sources_from f v source n ++ replicate (length (row_edges f v next)) next =
    ap (sources_from f v source) more ∙ sources_from-more f v source n
    ∙ ap (λ s. sources_from f v source n ++ replicate (length (row_edges f v s)) s) here in
    let R = lent_rows_from f v source n in
    let S = sources_from f v source n in
    let piece = lent_edges_of f (block_values c.row_blocks-blocks.result.now) in
    let count = c.loop-next.count in
    let wrote = c.write_blocks-end.ensures.columns in
    let end = c.write_blocks-end.ensures.end in
    let many = ap length row in
    let all = ap length rows in
    let both = length-append R (row_edges f v next) in
    let start : count ≡ 0 + length R = omega (arith, so_far.counted) in
    let start_s : count ≡ 0 + length S = omega (arith, so_far.counted, sources_long f v source n) in
    let filled : c.write_blocks-end.result - count ≡ length (row_edges f v next) = omega (arith, end, many) in
    record {
      onward = omega (arith, so_far.onward);
      most = inl (omega (arith, c.loop-next-test.true));
      counted = omega (arith, end, so_far.counted, all, both, many);
      fits = omega (arith, end, so_far.fits, c.count_blocks.ensures, c.loop-next.auto.kinds, c.write_blocks-end.auto.kinds);
      edges = wrote ∙ ap (with_edges count piece) so_far.edges ∙ ap (λ m. with_edges m piece (with_edges 0 R old)) start
          ∙ sym (with_edges-append 0 R piece old) ∙ ap (λ es. with_edges 0 (R ++ es) old) row
          ∙ ap (λ es. with_edges 0 es old) (sym rows);
      sources_are = c.fill.ensures ∙ ap (λ m. with_values count (replicate m next) c.loop-next.sources) filled
          ∙ ap (with_values count (replicate (length (row_edges f v next)) next)) so_far.sources_are
          ∙ ap (λ m. with_values m (replicate (length (row_edges f v next)) next) (with_values 0 S c.args.sources.now)) start_s
          ∙ sym (with_values-append 0 S (replicate (length (row_edges f v next)) next) c.args.sources.now)
          ∙ ap (λ xs. with_values 0 xs c.args.sources.now) (sym sources);
    }
