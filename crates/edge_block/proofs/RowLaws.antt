-- What one operation changes in a source's row.
use Rattle.std.proofs.Common.{◌≡◌, ℕ, zero, suc, ◌==◌, List, [], ◌∷◌, ◌++◌, Bool, true, false, cond, refl, sym, ◌∙◌}
use Rattle.std.proofs.{Common.{subst, Option, Some, None, is_some, All, replicate}, lemmas.Bool.false≢true}
use Rattle.std.proofs.lemmas.{Bool.{and_parts, eqb-true, or_left, or_right}, List.Elements.{All-push, All-weaker}}
use Rattle.std.specs.List.{list_any}
use Rattle.std.proofs.{Common.arith, lemmas.Grind.common_steps}
use Rattle.graph_types.specs.{Graph.Stamp, Step.stamp_after, Step.outcome_at}
use Rattle.graph_types.specs.declared.changes.EdgeChange.{EdgeChange}
use Rattle.graph_types.proofs.Cases.{none_is}
use Rattle.graph_types.proofs.PairOrder.{same_place, pair_same}
use Rattle.edge_block.specs.Slots.{Slot, at_first, stamp_in_slot, stamp_at, holds, is_free_slot, AreDistinct, NoKeyTwice, put_slot}
use Rattle.edge_block.specs.{Slots.take_slot, Rows.{OpenBlock, open_at, edge_at, has_edge, has_room, touch, new_block, put_edge}}
use Rattle.edge_block.{specs.Rows.{set_edge, touches, change_row}, proofs.Changes.{set_first, set_unique}}
use Rattle.edge_block.proofs.Changes.{set_last, unique_last, Fits, Puts, fits_key, fits_room, any_key}
use Rattle.edge_block.proofs.{Entries.{stamp_at-put_slot, stamp_at-take_slot, AreDistinct-put_slot, AreDistinct-take_slot}, KeptColumns.distinct_none}
use Rattle.edge_block.proofs.Firsts.{All-at_first, at_first-none}

-- a block of the kind whose slots take this at the target
touch_puts : (place : ℕ × ℕ) (o : Option Stamp) (f : List (Option Slot) → List (Option Slot)) (h : OpenBlock)
    → place.0 ≡ h.shape.kind
    → ((target : ℕ) → stamp_at (f h.shape.slots) target ≡ cond (target == place.1) o (stamp_at h.shape.slots target))
    → Puts open_at same_place pair_same place o (touch f h) h
touch_puts place o f h kind is q = grind (arith, common_steps)

-- a block with an edge of a kind is of the kind, and has the target
edge_kind : (place : ℕ × ℕ) (h : OpenBlock) → has_edge place h ≡ true
    → (place.0 ≡ h.shape.kind) × (list_any (holds place.1) h.shape.slots ≡ true)
edge_kind place h is =
    elim (place.0 == h.shape.kind) as (λ b. place.0 == h.shape.kind ≡ b
    → is_some (cond b (stamp_at h.shape.slots place.1) None) ≡ true
    → (place.0 ≡ h.shape.kind) × (list_any (holds place.1) h.shape.slots ≡ true)) [
      | true ↦ λ t i. (eqb-true place.0 h.shape.kind t, any_key stamp_in_slot ◌==◌ eqb-true place.1 None h.shape.slots ∙ i)
      | false ↦ λ t i. absurd (false≢true i)
    ] refl is

abbrev pub Within : OpenBlock → Type 0
Within h = AreDistinct h.shape.slots

-- no two slots of an open row have edges of one kind to one target
pub record IsOpenRow (row : List OpenBlock) : Type 0 where
  pub within : All (λ b. AreDistinct b.shape.slots) row
  pub between : NoKeyTwice open_at row

-- a row and one change to it
abbrev pub Sets : ℕ × ℕ → Option Stamp → List OpenBlock → List OpenBlock → Type 0
Sets place o row next = ((q : ℕ × ℕ) → edge_at next q ≡ cond (same_place q place) o (edge_at row q)) × IsOpenRow next

any_at : (place : ℕ × ℕ) (o : Option Stamp) (row : List OpenBlock) → list_any (has_edge place) row ≡ is_some (edge_at row place)
any_at place o row = any_key open_at same_place pair_same place o row

pub empty_at : (n target : ℕ) → stamp_at (replicate n None) target ≡ None
empty_at zero target = refl
empty_at (suc n) target = empty_at n target

-- a change that touches no block leaves what was there
pub unmoved : (change : EdgeChange) (before : Option Stamp) → touches (outcome_at change before) ≡ false
    → stamp_after change before ≡ before
unmoved h0 h1 h = grind (arith, common_steps)

module _ (place : ℕ × ℕ) (row : List OpenBlock) (u : IsOpenRow row) where
  module _ (stamp : Stamp) where
    abbrev e : Slot
    e = record { target = place.1; stamp = stamp }

    put_over : list_any (has_edge place) row ≡ true
        → Sets place (Some stamp) row (at_first (has_edge place) (touch (put_slot e)) row)
    put_over h =
        let fits : Fits open_at same_place pair_same place (Some stamp) (has_edge place) (touch (put_slot e)) row =
        fits_key open_at same_place pair_same place (Some stamp) (touch (put_slot e)) row h u.between
        (All-weaker Within (λ x. has_edge place x ≡ true
        → Puts open_at same_place pair_same place (Some stamp) (touch (put_slot e) x) x)
        (λ x d i. touch_puts place (Some stamp) (put_slot e) x (edge_kind place x i).0
        (stamp_at-put_slot e x.shape.slots d (or_left _ (list_any is_free_slot x.shape.slots) (edge_kind place x i).1))) row u.within) in (
          set_first open_at same_place pair_same place (Some stamp) (has_edge place) (touch (put_slot e)) row fits,
          record {
            within = All-at_first Within (has_edge place) (touch (put_slot e)) row u.within
                (λ x i d. AreDistinct-put_slot e x.shape.slots d);
            between = set_unique open_at same_place pair_same place (Some stamp) (has_edge place)
                (touch (put_slot e)) row fits u.between;
          },
        )

    put_into : edge_at row place ≡ None → list_any (λ h. has_room place.0 h.shape) row ≡ true
        → Sets place (Some stamp) row (at_first (λ h. has_room place.0 h.shape) (touch (put_slot e)) row)
    put_into none h =
        let room : OpenBlock → Bool = λ x. has_room place.0 x.shape in
        let parts : (x : OpenBlock) → room x ≡ true → (place.0 == x.shape.kind ≡ true) × (list_any is_free_slot x.shape.slots ≡ true) =
        λ x i. and_parts (place.0 == x.shape.kind) (list_any is_free_slot x.shape.slots) i in
        let fits : Fits open_at same_place pair_same place (Some stamp) room (touch (put_slot e)) row =
        fits_room open_at same_place pair_same place (Some stamp) room (touch (put_slot e)) row h none
        (All-weaker Within (λ x. room x ≡ true → open_at x place ≡ None
        → Puts open_at same_place pair_same place (Some stamp) (touch (put_slot e) x) x)
        (λ x d i n. touch_puts place (Some stamp) (put_slot e) x (eqb-true place.0 x.shape.kind (parts x i).0)
        (stamp_at-put_slot e x.shape.slots d (or_right (list_any (holds place.1) x.shape.slots) _ (parts x i).1))) row u.within) in (
          set_first open_at same_place pair_same place (Some stamp) room (touch (put_slot e)) row fits,
          record {
            within = All-at_first Within room (touch (put_slot e)) row u.within
                (λ x i d. AreDistinct-put_slot e x.shape.slots d);
            between = set_unique open_at same_place pair_same place (Some stamp) room (touch (put_slot e)) row fits u.between;
          },
        )

    new_at : (q : ℕ × ℕ) → open_at (new_block place.0 e) q ≡ cond (same_place q place) (Some stamp) None
    new_at q = grind (arith, common_steps)

    put_last : edge_at row place ≡ None → Sets place (Some stamp) row (row ++ new_block place.0 e ∷ [])
    put_last none = (
      set_last open_at same_place pair_same place (Some stamp) row (new_block place.0 e) none new_at,
      record {
        within = All-push Within row (new_block place.0 e) u.within (λ k i. empty_at 31 k, distinct_none 31);
        between = unique_last open_at same_place pair_same place (Some stamp) row (new_block place.0 e) none new_at u.between;
      },
    )

    pub put_sets : Sets place (Some stamp) row (put_edge place.0 e row)
    put_sets = grind (arith, common_steps, put_over, none_is, any_at, put_into, put_last)

  none_sets : edge_at row place ≡ None → Sets place None row row
  none_sets none = grind (arith, common_steps)

  same_sets : (o : Option Stamp) → edge_at row place ≡ o → Sets place o row row
  same_sets o is = grind (arith, common_steps)

  pub take_sets : Sets place None row (set_edge place None row)
  take_sets =
      elim (list_any (has_edge place) row) as (λ b. list_any (has_edge place) row ≡ b
      → Sets place None row (set_edge place None row)) [
        | true ↦ λ t.
            let fits : Fits open_at same_place pair_same place None (has_edge place) (touch (take_slot place.1)) row =
            fits_key open_at same_place pair_same place None (touch (take_slot place.1)) row t u.between
            (All-weaker Within (λ x. has_edge place x ≡ true
            → Puts open_at same_place pair_same place None (touch (take_slot place.1) x) x)
            (λ x d i. touch_puts place None (take_slot place.1) x (edge_kind place x i).0 (stamp_at-take_slot place.1 x.shape.slots d))
            row u.within) in (
              set_first open_at same_place pair_same place None (has_edge place) (touch (take_slot place.1)) row fits,
              record {
                within = All-at_first Within (has_edge place) (touch (take_slot place.1)) row u.within
                    (λ x i d. AreDistinct-take_slot place.1 x.shape.slots d);
                between = set_unique open_at same_place pair_same place None (has_edge place)
                    (touch (take_slot place.1)) row fits u.between;
              },
            )
        | false ↦ λ t.
            subst (Sets place None row) (sym (at_first-none (has_edge place) (touch (take_slot place.1)) row t))
            (none_sets (none_is (edge_at row place) (sym (any_at place None row) ∙ t)))
      ] refl

  set_sets : (o : Option Stamp) → Sets place o row (set_edge place o row)
  set_sets None = take_sets
  set_sets (Some stamp) = put_sets stamp

  -- one change puts at its place what the operation rule says, and changes nothing else; a row stays a row
  pub change_sets : (change : EdgeChange) → Sets place (stamp_after change (edge_at row place)) row (change_row change place row)
  change_sets change = grind (arith, common_steps, set_sets, same_sets, unmoved)
