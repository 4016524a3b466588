use Rattle.std.proofs.Common.{◌≡◌, take}
use Rattle.edge_block.specs.Slots.{with_slots}
use Rattle.opening_columns.specs.Runs.{slots_of_run}
use Rattle.opening_columns.proofs.filling.put_edges.Given as goal

abbrev pub invariant-loop-edge : goal.invariant-loop-edge
invariant-loop-edge l = l.block ≡ with_slots l.fn.block (slots_of_run (take l.edge-index l.edges))
