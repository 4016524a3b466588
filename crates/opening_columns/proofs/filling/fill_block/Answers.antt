use Rattle.std.proofs.Common.{◌∙◌, ap}
use Rattle.edge_block.specs.Slots.{BlockView, with_slots}
use Rattle.opening_columns.specs.Runs.{slots_of_run}
use Rattle.opening_columns.proofs.RunLists.{filled_is}
use Rattle.opening_columns.proofs.NoEdge.{no_edge}
use Rattle.opening_columns.proofs.filling.fill_block.Goals as goal

pub returns-clause-filled : goal.returns-clause-filled
returns-clause-filled c =
    filled_is c.args.run.now no_edge c.args.block.now.number c.put_edges.new.block c.requires.run
    (c.put_edges.ensures ∙ ap (λ (b : BlockView). with_slots b (slots_of_run c.args.run.now)) c.clear_for.ensures)
