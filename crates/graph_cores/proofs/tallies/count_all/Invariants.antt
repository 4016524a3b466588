use Rattle.graph_cores.specs.Tallies.{shown_edges, IsCounted}
use Rattle.graph_cores.proofs.tallies.count_all.Given as goal
use Rattle.graph_version.proofs.RowBlocks.{blocks_below}

abbrev pub invariant-loop-source : goal.invariant-loop-source
invariant-loop-source l = IsCounted l.view (shown_edges l.view (blocks_below l.version.rows l.source)) l.table
