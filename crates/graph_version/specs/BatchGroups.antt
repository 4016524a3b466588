-- Batches in groups of 256.
use Rattle.std.specs.{Prelude.{List, flat_map}, Arc.arc_value, declared.{sync.Arc.Arc, alloc.Global.Global}}
use Rattle.graph_types.specs.declared.batches.NamedOp.{NamedOp}
use Rattle.list_pieces.specs.Pieces.{ArePieces}
use Rattle.graph_version.specs.declared.batch_group.BatchGroup.{BatchGroup}

abbrev pub in_group : Arc BatchGroup Global → List (List NamedOp)
in_group group = arc_value {X = BatchGroup} group

abbrev pub in_groups : List (Arc BatchGroup Global) → List (List NamedOp)
in_groups groups = flat_map in_group groups

abbrev pub AreGroups : List (Arc BatchGroup Global) → Type 0
AreGroups groups = ArePieces 256 in_group groups
