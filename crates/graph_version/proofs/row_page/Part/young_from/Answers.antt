use Rattle.std.proofs.Common.{arith}
use Rattle.graph_version.proofs.Ages.{young_from_bound}
use Rattle.graph_version.proofs.row_page.Part.young_from.Goals as goal

pub returns-then-self-time : goal.returns-then-self-time
returns-then-self-time c =
    rw (← c.self.view_is) (young_from_bound c.args.time c.self.inside.since c.self.inside.rows c.args.place 8 c.self.invariant.0
    (omega (arith, c.if-self-time.true)) c.self.invariant.1 c.requires)
