-- Notes of a row: what an operation leaves of its targets, and the first of the noted places.
use Rattle.std.proofs.Common.{◌≡◌, ◌⊎◌, ℕ, ◌<◌, ◌≤◌, Bool, true, List, [], ◌∷◌, ◌++◌, length, get_or}
use Rattle.std.proofs.{Common.{set, ap, ◌∙◌, inl, inr, arith}, lemmas.Bool.false_from_ne_true}
use Rattle.std.proofs.lemmas.{Bool.{eqb-true, eqb-false, or_cases}, List.{get_or-set_same, get_or-set_other}}
use Rattle.std.proofs.{lemmas.List.{get_or_default, get_or_append_left}, Math.ListN.length-set}
use Rattle.std.specs.{List.{list_any, position}, Option.{IfSome, MatchOption}}
use Rattle.std.{specs.declared.option.Option.{Option, TheVariants.{None, Some}}, proofs.lemmas.Grind.common_steps}
use Rattle.graph_types.specs.{Graph.Stamp, declared.changes.EdgeChange.EdgeChange}
use Rattle.graph_types.proofs.Searches.{position_none, position_is}
use Rattle.edge_block.{specs.{Slots.{Slot, holds, put_slot}, Rows.new_block}, proofs.SlotLaws.target_of_edge}
use Rattle.edge_block.proofs.SlotTargets.{take_targets, put_targets, no_target}
use Rattle.batch_shards.specs.{RowBlocks.{open_of, set_slot, IsTouched, IsChanged}, Notes.{has_target, stands, IsNoted, Gains}}
use Rattle.batch_shards.specs.declared.{notes.Notes.Notes, row_blocks.RowBlock.RowBlock}

-- of the places done, the first at which a block passes
pub record IsFirstOf (p : RowBlock → Bool) (row : List RowBlock) (done : List ℕ) (first : Option ℕ) : Type 0 where
  pub found : IfSome first (λ f. (f < length row) × ((h : RowBlock) → p (get_or row f h) ≡ true))
  pub least : (i : ℕ) (h : RowBlock) → i < length row → p (get_or row i h) ≡ true → stands done i ≡ true
      → MatchOption first ⊥ (λ f. f ≤ i)

module _ (p : RowBlock → Bool) (row : List RowBlock) where
  pub first_is : (places : List ℕ) (first : Option ℕ) → IsFirstOf p row places first
      → ((i : ℕ) (h : RowBlock) → i < length row → p (get_or row i h) ≡ true → stands places i ≡ true)
      → position p row ≡ first
  first_is places None is all = position_none p row (λ i d lt at. is.least i d lt at (all i d lt at))
  first_is places (Some f) is all = go row is.found.0 (λ h. is.found.1 h) (λ k h lt at. is.least k h lt at (all k h lt at)) where
    go : (xs : List RowBlock) → f < length xs → ((h : RowBlock) → p (get_or xs f h) ≡ true)
        → ((k : ℕ) (h : RowBlock) → k < length xs → p (get_or xs k h) ≡ true → f ≤ k) → position p xs ≡ Some f
    go [] lt here least = absurd (omega arith)
    go (x ∷ xs) lt here least =
        position_is p (x ∷ xs) f x lt (here x)
        (λ k below. false_from_ne_true (p (get_or (x ∷ xs) k x))
        (λ t. let le = least k x (omega arith) t in absurd (omega arith)))

-- What a change leaves of the targets of a block

set_targets : (target : ℕ) (o : Option Stamp) (slots : List (Option Slot)) (t : ℕ) → list_any (holds target) slots ≡ true
    → list_any (holds t) (set_slot target o slots) ≡ true → list_any (holds t) slots ≡ true
set_targets target None slots t has h = take_targets target slots t h
set_targets target (Some stamp) slots t has h = elim (put_targets (record { target = target; stamp = stamp }) slots t h) [
  | inl there ↦ there
  | inr same ↦ ap (λ n. list_any (holds n) slots) same ∙ has
]

pub changed_targets : (change : EdgeChange) (target : ℕ) (h y : RowBlock) (t : ℕ) → IsChanged change target h y
    → has_target target h ≡ true → has_target t y ≡ true → has_target t h ≡ true
changed_targets change target h y t is has now = grind (arith, common_steps, set_targets)

pub put_block_targets : (e : Slot) (h y : RowBlock) (t : ℕ) → IsTouched (put_slot e) h y → has_target t y ≡ true
    → (has_target t h ≡ true) ⊎ (t ≡ e.target)
put_block_targets e h y t is now = grind (arith, common_steps, put_targets)

pub new_block_targets : (kind : ℕ) (e : Slot) (y : RowBlock) (t : ℕ) → open_of y ≡ new_block kind e → has_target t y ≡ true
    → t ≡ e.target
new_block_targets kind e y t is now = grind (arith, common_steps, or_cases, target_of_edge, no_target)

-- What it leaves of a row's

pub noted_kept : (notes : Option Notes) (row : List RowBlock) (p : ℕ) (y d : RowBlock) → p < length row → IsNoted notes row
    → ((t : ℕ) → has_target t y ≡ true → has_target t (get_or row p d) ≡ true) → IsNoted notes (set row p y)
noted_kept notes row p y d within noted keeps =
    grind (arith, common_steps, length-set, eqb-true, get_or-set_same, get_or-set_other, eqb-false)

pub gains_put : (target p : ℕ) (row : List RowBlock) (y d : RowBlock) → p < length row
    → ((t : ℕ) → has_target t y ≡ true → (has_target t (get_or row p d) ≡ true) ⊎ (t ≡ target)) → Gains target p row (set row p y)
gains_put target p row y d within keeps =
    grind (arith, common_steps, length-set, eqb-true, get_or-set_same, get_or_default, get_or-set_other, eqb-false)

pub gains_push : (target : ℕ) (row : List RowBlock) (y : RowBlock) → ((t : ℕ) → has_target t y ≡ true → t ≡ target)
    → Gains target (length row) row (row ++ y ∷ [])
gains_push target row y only_one = grind (arith, common_steps, get_or_append_left)
