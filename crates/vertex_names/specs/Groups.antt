-- Names in groups of 32,768.
use Rattle.std.specs.{Prelude.{ℕ, List, flat_map}, Arc.arc_value, declared.{sync.Arc.Arc, alloc.Global.Global}}
use Rattle.list_pieces.specs.Pieces.{ArePieces}
use Rattle.vertex_names.specs.declared.text_group.TextGroup.{TextGroup}

abbrev pub in_text_group : Arc TextGroup Global → List (List ℕ)
in_text_group group = arc_value {X = TextGroup} group

abbrev pub in_text_groups : List (Arc TextGroup Global) → List (List ℕ)
in_text_groups groups = flat_map in_text_group groups

-- the names stand in groups of 32,768
abbrev pub AreTextGroups : List (Arc TextGroup Global) → Type 0
AreTextGroups groups = ArePieces 32768 in_text_group groups
