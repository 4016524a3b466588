use Rattle.std.proofs.{Common.{◌≤◌, sym, ◌∙◌, arith}, lemmas.Bool.le-ltb}
use Rattle.graph_version.{specs.Sharing.row_block_values, proofs.Ages.earlier_row}
use Rattle.graph_version.proofs.row.Row.has_before.Goals as goal

pub returns-else-self-time : goal.returns-else-self-time
returns-else-self-time c =
    let le : c.args.time ≤ c.self.inside.since = omega (arith, c.if-self-time.false) in
    rw (← c.self.view_is) (le-ltb c.self.inside.since c.args.time le
    ∙ sym (earlier_row c.args.time c.self.inside.since (row_block_values c.self.inside.blocks) le c.self.invariant.0))
