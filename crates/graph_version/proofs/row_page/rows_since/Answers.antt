use Rattle.std.proofs.{Common.{◌≡◌, ℕ, List, false, subst, sym, ap, ◌∙◌, arith}, lemmas.List.take_all}
use Rattle.graph_types.proofs.Elements.{bounded_more}
use Rattle.edge_block.specs.Slots.{BlockView}
use Rattle.graph_version.{specs.Ages.{AreSince, is_old_row}, proofs.Ages.earlier_row}
use Rattle.graph_version.proofs.row_page.rows_since.Goals as goal

pub loop-row-preserved : goal.loop-row-preserved
loop-row-preserved c =
    let u : ℕ = c.since.result in
    let least = c.min-since.ensures in
    bounded_more (λ (t : ℕ) (row : List BlockView). is_old_row t row ≡ false) earlier_row
    c.min-since.result c.loop-row.since u c.args.rows.now c.loop-row.row-index c.row-item.result c.loop-row-test.true
    (omega (arith, least)) (omega (arith, least)) c.loop-row.invariant
    (ap (is_old_row u) (sym c.row-item.is) ∙ c.since.ensures)

pub returns : goal.returns
returns c =
    subst (AreSince c.loop-row.since) (take_all c.loop-row.row-index c.args.rows.now (omega (arith, c.loop-row-test.false)))
    c.loop-row.invariant
