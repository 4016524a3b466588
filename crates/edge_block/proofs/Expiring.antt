-- What taking an old edge leaves of the old ones.
use Rattle.std.proofs.Common.{◌≡◌, ℕ, ◌+◌, ◌-◌, ◌≤◌, ◌==◌, List, [], ◌∷◌, Bool, true, false, cond, map, filter}
use Rattle.std.proofs.{Common.{length, refl, sym, ap, ◌∙◌, arith, Option, Some, None, is_some}, lemmas.Bool.{false≢true, eq-eqb}}
use Rattle.std.proofs.lemmas.{Bool.Decides.nat_tests, Option.same_Some, List.Sums.sum_by-cons}
use Rattle.std.specs.{Option.option_or, Prelude.nat_lt, List.list_any}
use Rattle.std.proofs.lemmas.Grind.{common_steps}
use Rattle.lane_scan.specs.Masks.{IsLeastOf}
use Rattle.graph_types.specs.{Graph.Key, Graph.Stamp, Step.is_before, View.in_view, declared.ids.Filter.Filter}
use Rattle.graph_types.proofs.{Numbers.in_window, Searches.any_mapped}
use Rattle.lane_scan.proofs.MaskPlaces.{least_tells}
use Rattle.edge_block.specs.Slots.{Slot, stamp_at, take_slot, edges_in, AreDistinct, BlockView, entry_in, slots_since, old_in}
use Rattle.edge_block.specs.{Slots.{has_before, entries_of}, Lending.{LentEdge, lent_of}}

module _ (time : ℕ) where
  abbrev old : Slot → Bool
  old e = is_before time e.stamp

  old_cons : (e : Slot) (slots : List (Option Slot)) → old_in time (Some e ∷ slots) ≡ cond (old e) 1 0 + old_in time slots
  old_cons e slots = sum_by-cons (λ (x : Slot). cond {A = ℕ} (old x) 1 0) e (edges_in slots)

  -- the old edge to a target that is taken goes anyway
  pub kept_taken : (target : ℕ) (s : Stamp) (slots : List (Option Slot)) → is_before time s ≡ true
      → stamp_at slots target ≡ Some s → slots_since time (take_slot target slots) ≡ slots_since time slots
  kept_taken target s [] was at = cc
  kept_taken target s (None ∷ slots) was at = ap (λ xs. None ∷ xs) (kept_taken target s slots was at)
  kept_taken target s (Some e ∷ slots) was at =
      elim (target == e.target) as (λ b. option_or (cond b (Some e.stamp) None) (stamp_at slots target) ≡ Some s
      → slots_since time (cond (is_some (cond b (Some e.stamp) None)) (None ∷ slots) (Some e ∷ take_slot target slots))
      ≡ cond (old e) None (Some e) ∷ slots_since time slots) [
        | true ↦ λ h.
            let here : old e ≡ true = ap (is_before time) (same_Some e.stamp s h) ∙ was in
            ap (λ b. cond b None (Some e) ∷ slots_since time slots) (sym here)
        | false ↦ λ h. ap (λ xs. cond (old e) None (Some e) ∷ xs) (kept_taken target s slots was h)
      ] at

  pub count_taken : (target : ℕ) (s : Stamp) (slots : List (Option Slot)) → is_before time s ≡ true
      → stamp_at slots target ≡ Some s → old_in time (take_slot target slots) + 1 ≡ old_in time slots
  count_taken target s [] was at = cc
  count_taken target s (None ∷ slots) was at = count_taken target s slots was at
  count_taken target s (Some e ∷ slots) was at =
      elim (target == e.target) as (λ b. option_or (cond b (Some e.stamp) None) (stamp_at slots target) ≡ Some s
      → old_in time (cond (is_some (cond b (Some e.stamp) None)) (None ∷ slots) (Some e ∷ take_slot target slots)) + 1
      ≡ old_in time (Some e ∷ slots)) [
        | true ↦ λ h.
            let here : old e ≡ true = ap (is_before time) (same_Some e.stamp s h) ∙ was in
            let all = old_cons e slots ∙ ap (λ (b : Bool). cond {A = ℕ} b 1 0 + old_in time slots) here in omega arith
        | false ↦ λ h.
            let all = old_cons e slots in
            let rest = old_cons e (take_slot target slots) in
            let more = count_taken target s slots was h in omega arith
      ] at

  no_less : (b : Bool) (n : ℕ) → cond b 1 0 + n ≡ 0 → (b ≡ false) × (n ≡ 0)
  no_less h0 n h = grind (arith, common_steps)

  pub none_old : (slots : List (Option Slot)) → old_in time slots ≡ 0 → slots_since time slots ≡ slots
  none_old [] none = refl
  none_old (None ∷ slots) none = ap (λ xs. None ∷ xs) (none_old slots none)
  none_old (Some e ∷ slots) none =
      let parts = no_less (old e) (old_in time slots) (sym (old_cons e slots) ∙ none) in
      (λ i. cond (parts.0 i) None (Some e) ∷ none_old slots parts.1 i)

  pub few_old : (slots : List (Option Slot)) → old_in time slots ≤ length slots
  few_old [] = omega arith
  few_old (None ∷ slots) = let rest = few_old slots in omega arith
  few_old (Some e ∷ slots) =
      let rest = few_old slots in
      let all = old_cons e slots in
      elim (old e) as (λ b. old_in time (Some e ∷ slots) ≡ cond b 1 0 + old_in time slots
      → old_in time (Some e ∷ slots) ≤ length (Some e ∷ slots)) [ true ↦ λ h. omega arith | false ↦ λ h. omega arith ] all

-- the first of a block's edges that pass a test is the block's edge to its target
module _ (p : Key × Stamp → Bool) (b : BlockView) where
  pub first_stands : (slots : List (Option Slot)) (x : Key × Stamp) (rest : List (Key × Stamp)) → AreDistinct slots
      → filter p (map (entry_in b) (edges_in slots)) ≡ x ∷ rest → (stamp_at slots x.0.target ≡ Some x.1) × (p x ≡ true)
  first_stands [] x rest u is = cc
  first_stands (None ∷ slots) x rest u is = first_stands slots x rest u.1 is
  first_stands (Some e ∷ slots) x rest u is =
      let here = entry_in b e in
      let others = filter p (map (entry_in b) (edges_in slots)) in
      elim (p here) as (λ t. p here ≡ t → cond t (here ∷ others) others ≡ x ∷ rest
      → (stamp_at (Some e ∷ slots) x.0.target ≡ Some x.1) × (p x ≡ true)) [
        | true ↦ λ t h.
            let same : here ≡ x = cc in (
              ap (λ (y : Key × Stamp). stamp_at (Some e ∷ slots) y.0.target) (sym same)
                  ∙ ap (λ c. option_or (cond c (Some e.stamp) None) (stamp_at slots e.target)) (eq-eqb e.target e.target refl)
                  ∙ ap (λ (y : Key × Stamp). Some y.1) same,
              ap p (sym same) ∙ t,
            )
        | false ↦ λ t h.
            let there = first_stands slots x rest u.1 h in (
              elim (x.0.target == e.target) as (λ c. x.0.target == e.target ≡ c
                  → option_or (cond c (Some e.stamp) None) (stamp_at slots x.0.target) ≡ Some x.1) [
                    | true ↦ λ c.
                        let none : stamp_at slots x.0.target ≡ None =
                        u.0 x.0.target (ap (λ d. is_some (cond d (Some e.stamp) None)) c) in
                        absurd (false≢true (ap is_some (sym none ∙ there.0)))
                    | false ↦ λ c. there.0
                  ] refl,
              there.1,
            )
      ] refl is

  pub none_stands : (time : ℕ) (slots : List (Option Slot)) → ((e : Slot) → p (entry_in b e) ≡ is_before time e.stamp)
      → filter p (map (entry_in b) (edges_in slots)) ≡ [] → old_in time slots ≡ 0
  none_stands time [] same is = refl
  none_stands time (None ∷ slots) same is = none_stands time slots same is
  none_stands time (Some e ∷ slots) same is =
      let others = filter p (map (entry_in b) (edges_in slots)) in
      elim (p (entry_in b e)) as (λ t. p (entry_in b e) ≡ t → cond t (entry_in b e ∷ others) others ≡ []
      → old_in time (Some e ∷ slots) ≡ 0) [
        | true ↦ λ t h. cc
        | false ↦ λ t h.
            let out : is_before time e.stamp ≡ false = sym (same e) ∙ t in
            let all = old_cons time e slots ∙ ap (λ (c : Bool). cond {A = ℕ} c 1 0 + old_in time slots) out in
            let rest = none_stands time slots same h in omega arith
      ] refl is

abbrev pub before : ℕ → Filter
before time = record { kind = None; lo = 0; hi = time - 1 }

seen_before : (time : ℕ) (b : BlockView) → (time ≡ 0 → ⊥) → (e : Slot)
    → in_view (before time) (entry_in b e) ≡ is_before time e.stamp
seen_before time b some e = in_window time e.stamp.recent some

pub old_stands : (time : ℕ) (b : BlockView) (x : LentEdge) (rest : List LentEdge) → (time ≡ 0 → ⊥) → AreDistinct b.slots
    → map lent_of (filter (in_view (before time)) (entries_of b)) ≡ x ∷ rest
    → (stamp_at b.slots x.target ≡ Some x.stamp) × (is_before time x.stamp ≡ true)
old_stands time b x rest some u is =
    let p : Key × Stamp → Bool = in_view (before time) in
    elim (filter p (entries_of b)) as (λ l. filter p (entries_of b) ≡ l → map lent_of l ≡ x ∷ rest
    → (stamp_at b.slots x.target ≡ Some x.stamp) × (is_before time x.stamp ≡ true)) [
      | [] ↦ λ e m. cc
      | y ∷ ys ↦ λ e m.
          let same : lent_of y ≡ x = cc in
          let parts = first_stands p b b.slots y ys u e in (
            ap (λ (l : LentEdge). stamp_at b.slots l.target) (sym same) ∙ parts.0 ∙ ap (λ (l : LentEdge). Some l.stamp) same,
            ap (λ (l : LentEdge). is_before time l.stamp) (sym same) ∙ sym (in_window time y.1.recent some) ∙ parts.1,
          )
    ] refl is

pub none_left : (time : ℕ) (b : BlockView) → (time ≡ 0 → ⊥) → map lent_of (filter (in_view (before time)) (entries_of b)) ≡ []
    → old_in time b.slots ≡ 0
none_left time b some is =
    let p : Key × Stamp → Bool = in_view (before time) in
    elim (filter p (entries_of b)) as (λ l. filter p (entries_of b) ≡ l → map lent_of l ≡ [] → old_in time b.slots ≡ 0) [
      | [] ↦ λ e m. none_stands p b time b.slots (seen_before time b some) e
      | y ∷ ys ↦ λ e m. cc
    ] refl is

pub none_at_zero : (slots : List (Option Slot)) → old_in 0 slots ≡ 0
none_at_zero [] = refl
none_at_zero (None ∷ slots) = none_at_zero slots
none_at_zero (Some e ∷ slots) =
    let out : is_before 0 e.stamp ≡ false = grind (arith, nat_tests) in
    let all = old_cons 0 e slots ∙ ap (λ (c : Bool). cond {A = ℕ} c 1 0 + old_in 0 slots) out in
    let rest = none_at_zero slots in omega arith

-- The least of the recent times tells whether an edge is old

pub bounds_tell : (time : ℕ) (slots : List (Option Slot)) (least : ℕ)
    → IsLeastOf (map (λ e. e.stamp.recent) (edges_in slots)) least → nat_lt least time ≡ has_before time slots
bounds_tell time slots least is =
    least_tells time least (map (λ (e : Slot). e.stamp.recent) (edges_in slots)) is
    ∙ any_mapped (λ value. nat_lt value time) (λ (e : Slot). e.stamp.recent) (edges_in slots)

pub bare_tells : (time : ℕ) (slots : List (Option Slot)) → map (λ e. e.stamp.recent) (edges_in slots) ≡ []
    → false ≡ has_before time slots
bare_tells time slots bare =
    ap (list_any (λ value. nat_lt value time)) (sym bare)
    ∙ any_mapped (λ value. nat_lt value time) (λ (e : Slot). e.stamp.recent) (edges_in slots)
