-- The rows of groups of pages, one group behind the other.
use Rattle.std.specs.{Prelude.{List, [], flat_map}, Arc.arc_value, declared.{sync.Arc.Arc, alloc.Global.Global}}
use Rattle.edge_block.specs.Slots.{BlockView}
use Rattle.list_pieces.specs.Pieces.{AreFull, padded}
use Rattle.graph_version.specs.declared.row_group.Group.{Group}

abbrev pub in_group : Arc Group Global → List (List BlockView)
in_group group = arc_value {X = Group} group

abbrev pub in_groups : List (Arc Group Global) → List (List BlockView)
in_groups groups = flat_map in_group groups

abbrev pub AreGroups : List (Arc Group Global) → Type 0
AreGroups groups = AreFull 1024 in_group groups

-- the rows of at most 64 groups, and empty ones behind them, which makes 65,536
abbrev pub filled : List (Arc Group Global) → List (List BlockView)
filled groups = padded 65536 [] (in_groups groups)
