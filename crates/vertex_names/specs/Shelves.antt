-- From hashes to numbers, in sixteen parts.
use Rattle.std.specs.{Prelude.{ℕ, ◌/◌, ◌%◌, List, [], get_or, map}, Arc.arc_value}
use Rattle.std.specs.declared.{option.Option.Option, sync.Arc.Arc, alloc.Global.Global}
use Rattle.vertex_names.specs.{Order.found_in, declared.part.Part.Part}

-- what stands at a hash on its shelf: its part is told by the four bits before the last five
abbrev pub found_on : List (List (ℕ × List (ℕ × ℕ))) → ℕ → Option ℕ
found_on parts hash = found_in (get_or parts (hash / 32 % 16) []) hash

abbrev pub shelf_parts : List (Arc Part Global) → List (List (ℕ × List (ℕ × ℕ)))
shelf_parts parts = map (λ p. arc_value {X = Part} p) parts
