use Rattle.std.proofs.Common.{length, take}
use Rattle.graph_types.specs.Degrees.{IsTally}
use Rattle.graph_model.proofs.reply.tally.Given as goal

abbrev pub invariant-loop-edge : goal.invariant-loop-edge
invariant-loop-edge l = IsTally l.filter (take l.edge-index l.edges) (length l.content.names) l.table.items
