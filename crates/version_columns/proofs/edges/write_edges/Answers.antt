use Rattle.std.proofs.Common.{◌≡◌, ◌-◌, ◌<◌, length, inr, ap, ◌∙◌, arith, rules}
use Rattle.std.proofs.lemmas.List.{length-map, nil_from_length}
use Rattle.graph_version.specs.Sharing.{block_value}
use Rattle.graph_version.specs.Versions.{content}
use Rattle.graph_version.proofs.BlockCounts.{few_in_row}
use Rattle.version_columns.specs.Rows.{lent_edges_of, row_edges, lent_rows_from, IsTooLong}
use Rattle.version_columns.proofs.Columns.{none_written}
use Rattle.version_columns.proofs.edges.write_edges.Goals as goal

pub count_blocks-requires : goal.count_blocks-requires
count_blocks-requires c =
    omega (arith, few_in_row c.args.version.now c.write_rows-written.result.next c.row_blocks.ensures.version, ap length c.row_blocks.ensures.blocks, length-map c.row_blocks.result.now block_value)

pub returns-then-written-len : goal.returns-then-written-len
returns-then-written-len c =
    let f = c.in-Some.filter in
    let v = c.args.version.now in
    let source = c.args.source.now in
    let n = c.write_rows-written.result.next - source in
    let rows = c.write_rows-written.ensures.rows in
    let written = c.write_rows-written.ensures.written in
    let none : length (lent_rows_from f v source n) ≡ 0 = omega (arith, rows.counted, c.if-written-eq0.true) in
    let next = c.write_rows-written.result.next in
    let there : next < length (content v).names = search rules in
    let counted : c.count_blocks.result ≡ length (row_edges f v next) =
    c.count_blocks.ensures ∙ ap (λ blocks. length (lent_edges_of f blocks)) c.row_blocks.ensures.blocks in
    let long : IsTooLong f v source (length c.args.kinds.now) c.count_blocks.result = record {
      next = next;
      onward = rows.onward;
      there = there;
      empty = nil_from_length (lent_rows_from f v source n) none;
      long = omega (arith, rows.whole, there, c.if-written-eq0.true);
      counted = counted;
    } in
    (f, search rules, none_written f v source n _ _ _ _ none written.edges written.sources, inr long)
