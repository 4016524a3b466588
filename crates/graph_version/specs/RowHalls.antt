-- The rows of halls of groups, one hall behind the other.
use Rattle.std.specs.{Prelude.{List, flat_map}, Arc.arc_value, declared.{sync.Arc.Arc, alloc.Global.Global}}
use Rattle.edge_block.specs.Slots.{BlockView}
use Rattle.list_pieces.specs.Pieces.{AreFull}
use Rattle.graph_version.specs.declared.row_hall.Hall.{Hall}

abbrev pub in_hall : Arc Hall Global → List (List BlockView)
in_hall hall = arc_value {X = Hall} hall

abbrev pub in_halls : List (Arc Hall Global) → List (List BlockView)
in_halls halls = flat_map in_hall halls

abbrev pub AreHalls : List (Arc Hall Global) → Type 0
AreHalls halls = AreFull 65536 in_hall halls
