-- What a put and a take leave of slots.
use Rattle.std.proofs.Common.{arith, ◌≡◌, ℕ, Bool, true, false, List}
use Rattle.std.specs.{Prelude.if◌then◌else◌, Prelude.All, List.list_any}
use Rattle.std.specs.declared.option.Option.{Option, TheVariants.None, TheVariants.Some}
use Rattle.std.proofs.lemmas.Grind.{common_steps}
use Rattle.edge_block.specs.Slots.{Slot, IsSlot, at_first, holds, is_free_slot, put_slot, take_slot}
use Rattle.edge_block.proofs.Firsts.{All-at_first}

-- an edge is one to its target alone
pub target_of_edge : (e : Slot) (target : ℕ) → holds target (Some e) ≡ true → target ≡ e.target
target_of_edge e target h = grind (arith, common_steps)

pub All-put_slot : (e : Slot) (slots : List (Option Slot)) → IsSlot (Some e) → All IsSlot slots → All IsSlot (put_slot e slots)
All-put_slot e slots here all = go (list_any (holds e.target) slots) where
  go : (b : Bool) → All IsSlot (if b then at_first (holds e.target) (λ _. Some e) slots else at_first is_free_slot (λ _. Some e) slots)
  go true = All-at_first IsSlot (holds e.target) (λ _. Some e) slots all (λ _ _ _. here)
  go false = All-at_first IsSlot is_free_slot (λ _. Some e) slots all (λ _ _ _. here)

pub All-take_slot : (target : ℕ) (slots : List (Option Slot)) → All IsSlot slots → All IsSlot (take_slot target slots)
All-take_slot target slots all = All-at_first IsSlot (holds target) (λ _. None) slots all (λ _ _ _. tt)
