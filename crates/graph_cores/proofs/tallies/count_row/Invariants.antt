use Rattle.std.proofs.Common.{drop}
use Rattle.graph_version.specs.Sharing.{block_values}
use Rattle.graph_cores.{specs.Tallies.shown_edges, proofs.Parts.IsBegun}
use Rattle.graph_cores.proofs.tallies.count_row.Given as goal

abbrev pub invariant-loop-block : goal.invariant-loop-block
invariant-loop-block l = IsBegun l.view (shown_edges l.view (block_values l.blocks))
    (shown_edges l.view (block_values (drop l.block-index l.blocks))) l.fn.table l.table
