use Rattle.std.proofs.{Common.{sym, ◌∙◌, arith}, lemmas.Bool.le-ltb}
use Rattle.edge_block.proofs.Expiring.{bounds_tell, bare_tells}
use Rattle.graph_version.proofs.row.block_since.Goals as goal

pub returns-in-None-clause-since : goal.returns-in-None-clause-since
returns-in-None-clause-since c = sym (bare_tells 18446744073709551615 c.args.block.now.slots c.in-None.ensures)

pub returns-in-Some-clause-since : goal.returns-in-Some-clause-since
returns-in-Some-clause-since c =
    sym (bounds_tell c.in-Some.least c.args.block.now.slots c.in-Some.least c.in-Some.ensures.0)
    ∙ le-ltb c.in-Some.least c.in-Some.least (omega arith)
