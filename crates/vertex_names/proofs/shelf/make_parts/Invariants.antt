use Rattle.std.proofs.Common.{◌≡◌, ◌-◌, ℕ, [], length, get_or}
use Rattle.vertex_names.specs.Shelves.{shelf_parts}
use Rattle.vertex_names.proofs.shelf.make_parts.Given as goal

abbrev pub invariant-loop-alloc : goal.invariant-loop-alloc
invariant-loop-alloc l = (i : ℕ) → get_or (shelf_parts l.parts.items) i [] ≡ get_or (shelf_parts l.initial.parts.items) i []

abbrev pub decreases-loop-alloc : goal.decreases-loop-alloc
decreases-loop-alloc l = 16 - length l.parts.items
