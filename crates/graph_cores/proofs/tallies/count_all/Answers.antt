use Rattle.std.proofs.{Common.{◌≡◌, ◌∙◌, ◌++◌, ◌+◌, ◌≤◌, List, length, ap, sym, subst, arith, pos}, lemmas.List.length-replicate}
use Rattle.graph_types.specs.declared.ids.{Degree.Degree, Edge.Edge}
use Rattle.edge_block.specs.Slots.{BlockView}
use Rattle.graph_version.specs.{Rows.row_of, Sharing.block_values, Versions.content}
use Rattle.graph_version.proofs.RowBlocks.{blocks_below}
use Rattle.graph_cores.specs.Tallies.{shown_edges, IsCounted, AreViewEdges, Counts}
use Rattle.graph_cores.proofs.Whole.{below_within, shown_more, table_is}
use Rattle.graph_cores.proofs.tallies.count_all.Goals as goal

pub count_row-requires : goal.count_row-requires
count_row-requires c =
    let f = c.args.view.now in
    let v = c.args.version.now in
    let k = c.loop-source.source in
    let n = length (content v).names in
    let none : Degree = record { outgoing = 0; incoming = 0; out_weight = pos 0 } in
    let long : length c.loop-source.table ≡ n = c.loop-source.auto.table ∙ ap length c.requires ∙ length-replicate n none in
    let names : c.len-source-end.result ≡ n = c.len-source-end.ensures.value ∙ ap (λ b. length b.names) c.names.ensures.names in
    let more : k + 1 ≤ n = omega (arith, c.loop-source-test.true, names) in
    let row : row_of v.rows k ≡ block_values c.row_blocks.result.now = sym c.row_blocks.ensures.blocks in
    let edges : shown_edges f (blocks_below v.rows (k + 1)) ≡ shown_edges f (blocks_below v.rows k)
    ++ shown_edges f (block_values c.row_blocks.result.now) =
    shown_more f v.rows k ∙ ap (λ r. shown_edges f (blocks_below v.rows k) ++ shown_edges f r) row in (
      shown_edges f (blocks_below v.rows k),
      c.loop-source.invariant,
      subst
          (λ m. AreViewEdges f m (shown_edges f (blocks_below v.rows k) ++ shown_edges f (block_values c.row_blocks.result.now)))
          (sym long)
          (subst (AreViewEdges f n) edges (below_within v c.names.ensures.version f (k + 1) more)),
    )

pub loop-source-preserved : goal.loop-source-preserved
loop-source-preserved c =
    let f = c.args.view.now in
    let rows = c.args.version.now.rows in
    let k = c.loop-source.source in
    let row : block_values c.row_blocks.result.now ≡ row_of rows k = c.row_blocks.ensures.blocks in
    let counts =
    subst (λ (r : List BlockView). Counts f (shown_edges f r) c.loop-source.table c.count_row.new.table) row
    c.count_row.ensures in
    subst (λ (es : List Edge). IsCounted f es c.count_row.new.table) (sym (shown_more f rows k))
    (counts (shown_edges f (blocks_below rows k)) c.loop-source.invariant)

pub returns : goal.returns
returns c =
    let v = c.args.version.now in
    let n = length (content v).names in
    let none : Degree = record { outgoing = 0; incoming = 0; out_weight = pos 0 } in
    let long : length c.loop-source.table ≡ n = c.loop-source.auto.table ∙ ap length c.requires ∙ length-replicate n none in
    let names : c.len-source-end.result ≡ n = c.len-source-end.ensures.value ∙ ap (λ b. length b.names) c.names.ensures.names in
    let end : c.loop-source.source ≡ n = omega (arith, c.loop-source-test.false, c.loop-source.auto.source-end, names) in
    table_is v c.names.ensures.version c.args.view.now c.loop-source.source c.loop-source.table long end
    c.loop-source.invariant
