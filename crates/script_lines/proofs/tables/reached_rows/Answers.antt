use Rattle.std.proofs.Common.{◌<◌, ◌++◌, length, arith, string_bytes}
use Rattle.script_lines.proofs.TableRows.{reached_lines_more}
use Rattle.script_lines.proofs.tables.reached_rows.Goals as goal

pub loop-row-preserved : goal.loop-row-preserved
loop-row-preserved c =
    let names = c.args.names.now.names in
    let rows = c.args.rows.now in
    let k = c.loop-row.row-index in
    let lt : k < length rows = omega (arith, c.loop-row-test.true) in
    reached_lines_more names rows (string_bytes c.args.lines.now) (string_bytes c.loop-row.lines ++ c.loop-row.page.bytes) _ k _
    c.name_at.result.now c.name_at.ensures c.loop-row.invariant c.in_ok-number_line.ensures lt
