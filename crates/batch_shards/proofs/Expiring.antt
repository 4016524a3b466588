-- An expiry, block by block, and how many fresh blocks operations need.
use Rattle.std.proofs.Common.{◌≡◌, ℕ, zero, suc, ◌+◌, ◌<◌, ◌≤◌, Bool, true, false, cond, List, [], ◌∷◌}
use Rattle.std.proofs.Common.{◌++◌, map, length, get_or, refl, sym, arith, subst}
use Rattle.std.proofs.lemmas.List.Sums.{sum_by-append}
use Rattle.std.specs.List.{list_any}
use Rattle.std.specs.declared.option.Option.{Option, TheVariants.{None, Some}}
use Rattle.std.proofs.lemmas.Grind.{common_steps}
use Rattle.graph_types.specs.{Graph.{Stamp, Key}, Step.{outcome_at, stamp_after}}
use Rattle.graph_types.specs.declared.changes.EdgeChange.{EdgeChange}
use Rattle.graph_types.proofs.{Cases.and_both, Sums.count_wider}
use Rattle.edge_block.specs.{Slots.{Slot, at_first, BlockView}, Rows.OpenBlock}
use Rattle.edge_block.specs.Rows.{touch, expire_block, put_edge, set_edge, edge_at, untouched, shape_of, has_edge, has_room}
use Rattle.edge_block.specs.{Rows.{new_block, touches}, Batches.key_step}
use Rattle.edge_block.proofs.OldSlots.{old_later}
use Rattle.batch_shards.specs.Spending.{is_unspent, unspent, old_blocks, act_time, latest, spends, takes}
use Rattle.batch_shards.specs.declared.shard.{Act.{Act, TheVariants.{Edge, Expire}}, Step.Step}

pub unspent_later : (s t : ℕ) (b : OpenBlock) → s ≤ t → is_unspent s b ≡ true → is_unspent t b ≡ true
unspent_later s t b le e = grind (arith, common_steps, and_both, old_later)

pub fewer_earlier : (s t : ℕ) (row : List OpenBlock) → s ≤ t → unspent s row ≤ unspent t row
fewer_earlier s t row le = count_wider (is_unspent s) (is_unspent t) (λ b. unspent_later s t b le) row

-- one block of an expiry: what is taken of the fresh ones is no longer owed to a later time
pub expired_owes : (s t : ℕ) (b : OpenBlock) → s ≤ t
    → cond (is_unspent s b) 1 0 + cond (is_unspent t (expire_block s b)) 1 0 ≤ cond (is_unspent t b) 1 0
expired_owes s t b le = grind (arith, common_steps, old_later)

-- a change of an edge touches a block that was there, or a new one
touched_owes : (t : ℕ) (p : OpenBlock → Bool) (f : List (Option Slot) → List (Option Slot)) (row : List OpenBlock)
    → unspent t (at_first p (touch f) row) ≤ unspent t row
touched_owes t p f [] = omega arith
touched_owes t p f (b ∷ row) = grind (arith, common_steps, touched_owes t p f row)

put_owes : (t kind : ℕ) (e : Slot) (row : List OpenBlock) → unspent t (put_edge kind e row) ≤ unspent t row
put_owes t kind e row =
    elim (list_any (has_edge (kind, e.target)) row) as (λ x. unspent t (cond x
    (at_first (has_edge (kind, e.target)) (touch (Rattle.edge_block.specs.Slots.put_slot e)) row)
    (cond (list_any (λ b. has_room kind b.shape) row)
    (at_first (λ b. has_room kind b.shape) (touch (Rattle.edge_block.specs.Slots.put_slot e)) row) (row ++ new_block kind e ∷ [])))
    ≤ unspent t row) [
      | true ↦ touched_owes t (has_edge (kind, e.target)) (Rattle.edge_block.specs.Slots.put_slot e) row
      | false ↦ elim (list_any (λ b. has_room kind b.shape) row) as (λ y. unspent t (cond y
          (at_first (λ b. has_room kind b.shape) (touch (Rattle.edge_block.specs.Slots.put_slot e)) row)
          (row ++ new_block kind e ∷ [])) ≤ unspent t row) [
            | true ↦ touched_owes t (λ b. has_room kind b.shape) (Rattle.edge_block.specs.Slots.put_slot e) row
            | false ↦
                let a = sum_by-append (λ x. cond (is_unspent t x) 1 0) row (new_block kind e ∷ []) in
                omega arith
          ]
    ]

set_owes : (t : ℕ) (place : ℕ × ℕ) (s : Option Stamp) (row : List OpenBlock) → unspent t (set_edge place s row) ≤ unspent t row
set_owes t place None row = touched_owes t (has_edge place) (Rattle.edge_block.specs.Slots.take_slot place.1) row
set_owes t place (Some s) row = put_owes t place.0 (record { target = place.1; stamp = s }) row

key_owes : (t : ℕ) (change : EdgeChange) (key : Option Key) (row : List OpenBlock)
    → unspent t (key_step change key row) ≤ unspent t row
key_owes t change None row = omega arith
key_owes t change (Some k) row =
    elim (touches (outcome_at change (edge_at row (k.kind, k.target)))) as (λ b. unspent t (cond b
    (set_edge (k.kind, k.target) (stamp_after change (edge_at row (k.kind, k.target))) row) row) ≤ unspent t row) [
      | true ↦ set_owes t (k.kind, k.target) (stamp_after change (edge_at row (k.kind, k.target))) row
      | false ↦ omega arith
    ]

pub edge_owes : (t : ℕ) (change : EdgeChange) (key : Option Key) (row new : List OpenBlock) → new ≡ key_step change key row
    → unspent t new ≤ unspent t row
edge_owes t change key row new e = subst (λ r. unspent t r ≤ unspent t row) (sym e) (key_owes t change key row)

-- the row before the batch owes its old blocks
pub opened_owes : (t : ℕ) (row : List BlockView) → unspent t (map untouched (map shape_of row)) ≡ old_blocks t row
opened_owes t [] = refl
opened_owes t (b ∷ row) = grind (arith, common_steps, opened_owes t row)

-- no expiry is later than the latest
pub not_later : (steps : List Step) (k : ℕ) (s : Step) → k < length steps → act_time (get_or steps k s).act ≤ latest steps
not_later [] k s lt = absurd (omega arith)
not_later (x ∷ steps) zero s lt = Rattle.std.proofs.Math.Nat.le-max_left (act_time x.act) (latest steps)
not_later (x ∷ steps) (suc k) s lt = grind (arith, common_steps, not_later steps k s (omega arith))

-- what is needed of a row is what it takes and owes
pub spends_least : (act : Act) (t : ℕ) (row : List OpenBlock) → act_time act ≤ t → spends act row ≤ takes act + unspent t row
spends_least (Edge place change) t row le = omega arith
spends_least (Expire time) t row le = let few = fewer_earlier time t row le in omega arith
