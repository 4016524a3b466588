use Rattle.std.proofs.Common.{length}
use Rattle.graph_levels.{specs.Reached.level_table, proofs.Searches.levels_alone}
use Rattle.graph_levels.proofs.found.search_from.Goals as goal

pub returns-clause-levels : goal.returns-clause-levels
returns-clause-levels g c =
    let n = length (g.R.ViewEdges.graph c.args.edges.now).names in
    levels_alone (g.R.ViewEdges.filter c.args.edges.now) (g.R.ViewEdges.graph c.args.edges.now) c.args.source.0 n
    (level_table n c.in_ok-rows.rows.items) c.in_ok-rows.ensures.levels
