-- The rows of parts, one part behind the other.
use Rattle.std.specs.{Prelude.{List, flat_map}, Arc.arc_value, declared.{sync.Arc.Arc, alloc.Global.Global}}
use Rattle.edge_block.specs.Slots.{BlockView}
use Rattle.list_pieces.specs.Pieces.{AreFull}
use Rattle.graph_version.specs.declared.row_page.Part.{Part}

abbrev pub in_part : Arc Part Global → List (List BlockView)
in_part part = arc_value {X = Part} part

abbrev pub in_parts : List (Arc Part Global) → List (List BlockView)
in_parts parts = flat_map in_part parts

abbrev pub AreParts : List (Arc Part Global) → Type 0
AreParts parts = AreFull 8 in_part parts
