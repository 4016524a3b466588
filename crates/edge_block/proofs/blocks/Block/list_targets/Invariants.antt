use Rattle.std.proofs.Common.{◌≡◌, ◌++◌, map, filter}
use Rattle.graph_types.specs.View.{in_view}
use Rattle.edge_block.{specs.{Slots.entries_of, Lending.edges_left}, proofs.Runs.lent_targets}
use Rattle.edge_block.proofs.blocks.Block.list_targets.Given as goal

abbrev pub invariant-loop-edge : goal.invariant-loop-edge
invariant-loop-edge l = l.targets.items ++ lent_targets (edges_left l.edge-iterator) ≡ l.fn.targets.items
    ++ map (λ e. e.0.target) (filter (in_view l.view) (entries_of l.self))
