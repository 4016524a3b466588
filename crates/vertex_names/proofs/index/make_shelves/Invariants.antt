use Rattle.std.proofs.Common.{◌≡◌, ◌-◌, ℕ, [], length, get_or}
use Rattle.vertex_names.specs.Index.{shelves_of}
use Rattle.vertex_names.proofs.index.make_shelves.Given as goal

abbrev pub invariant-loop-alloc : goal.invariant-loop-alloc
invariant-loop-alloc l = (i : ℕ) → get_or (shelves_of l.shelves.items) i [] ≡ get_or (shelves_of l.initial.shelves.items) i []

abbrev pub decreases-loop-alloc : goal.decreases-loop-alloc
decreases-loop-alloc l = 32 - length l.shelves.items
