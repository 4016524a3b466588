-- When an edge can be put.
use Rattle.std.proofs.{Common.{arith, ◌≡◌, ℕ, true, List}, lemmas.Bool.{or_left, or_right, true_from_ne_false}}
use Rattle.std.specs.{List.list_any, declared.option.Option.{Option, TheVariants.Some}}
use Rattle.std.proofs.lemmas.Grind.{common_steps}
use Rattle.graph_types.specs.Graph.{Stamp}
use Rattle.edge_block.{specs.Slots.{Slot, holds, is_free_slot, stamp_at, has_room_for}, proofs.Firsts.first_some-by_any}

-- the target is there
pub room_found : (target : ℕ) (slots : List (Option Slot)) (stamp : Stamp) → stamp_at slots target ≡ Some stamp
    → has_room_for target slots ≡ true
room_found target slots stamp found = grind (arith, common_steps, or_left, true_from_ne_false, first_some-by_any)

-- a slot is free
pub room_free : (target : ℕ) (slots : List (Option Slot)) → list_any is_free_slot slots ≡ true → has_room_for target slots ≡ true
room_free target slots free = or_right (list_any (holds target) slots) (list_any is_free_slot slots) free
