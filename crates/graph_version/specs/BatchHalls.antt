-- Batches in halls of 8,192.
use Rattle.std.specs.{Prelude.{List, flat_map}, Arc.arc_value, declared.{sync.Arc.Arc, alloc.Global.Global}}
use Rattle.graph_types.specs.declared.batches.NamedOp.{NamedOp}
use Rattle.list_pieces.specs.Pieces.{ArePieces}
use Rattle.graph_version.specs.declared.batch_hall.BatchHall.{BatchHall}

abbrev pub in_hall : Arc BatchHall Global → List (List NamedOp)
in_hall hall = arc_value {X = BatchHall} hall

abbrev pub in_halls : List (Arc BatchHall Global) → List (List NamedOp)
in_halls halls = flat_map in_hall halls

abbrev pub AreHalls : List (Arc BatchHall Global) → Type 0
AreHalls halls = ArePieces 8192 in_hall halls
