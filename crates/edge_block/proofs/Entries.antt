-- What a search for a target finds: after a put, after a take, and among a block's entries.
use Rattle.std.proofs.Common.{◌≡◌, ℕ, ◌<◌, ◌==◌, ◌↔◌, List, [], ◌∷◌, length, get_or, true, false, cond}
use Rattle.std.proofs.{Common.{refl, sym, ap, ◌∙◌, subst, arith, inl, inr}, lemmas.Bool.{eqb-true, eq-eqb}}
use Rattle.std.proofs.lemmas.{Bool.{ne_eqb, cases_eq, cases_Bool}, List.{length-map, get_or-map, Elements.Contains-get_or}}
use Rattle.std.specs.{Prelude.◌||◌, Prelude.Contains, List.list_any, Option.is_some, Option.option_or}
use Rattle.std.specs.declared.option.Option.{Option, TheVariants.None, TheVariants.Some}
use Rattle.std.proofs.lemmas.Grind.{common_steps}
use Rattle.graph_types.{specs.Graph.{Key, Stamp}, proofs.{Arcs.contains_map, Counts.{Contains-cons, Contains-cons_cases}}}
use Rattle.graph_types.proofs.Cases.{none_is}
use Rattle.edge_block.specs.Slots.{Slot, BlockView, at_first, stamp_in_slot, stamp_at, holds, is_free_slot, has_room_for, AreDistinct}
use Rattle.edge_block.specs.{Slots.put_slot, Slots.take_slot, Slots.edges_in, Slots.entry_in, Slots.entries_of, Laws.StandsIn}
use Rattle.edge_block.proofs.{Firsts.at_first-none, Changes.{set_first, set_unique, Fits, Puts, fits_key, fits_room, any_key}}

-- a slot with an edge, in place of another to the same target
over : (e : Slot) (s : Option Slot) → holds e.target s ≡ true → Puts stamp_in_slot ◌==◌ eqb-true e.target (Some e.stamp) (Some e) s
over e h1 h q = grind (arith, common_steps)

-- a slot with an edge, in place of a free one
into : (e : Slot) (s : Option Slot) → is_free_slot s ≡ true → Puts stamp_in_slot ◌==◌ eqb-true e.target (Some e.stamp) (Some e) s
into e h1 h q = grind (arith, common_steps)

-- a free slot, in place of one with an edge to the target
out_of : (target : ℕ) (s : Option Slot) → holds target s ≡ true → Puts stamp_in_slot ◌==◌ eqb-true target None None s
out_of target h1 h q = grind (arith, common_steps)

-- a slot holds a target where a search finds it
pub list_any-holds : (target : ℕ) (slots : List (Option Slot)) → list_any (holds target) slots ≡ is_some (stamp_at slots target)
list_any-holds target slots = any_key stamp_in_slot ◌==◌ eqb-true target None slots

pub stamp_at-absent : (target : ℕ) (slots : List (Option Slot)) → list_any (holds target) slots ≡ false
    → stamp_at slots target ≡ None
stamp_at-absent target slots h = none_is (stamp_at slots target) (sym (list_any-holds target slots) ∙ h)

pub absent_by_stamp : (target : ℕ) (slots : List (Option Slot)) → stamp_at slots target ≡ None
    → list_any (holds target) slots ≡ false
absent_by_stamp target slots none = list_any-holds target slots ∙ ap is_some none

pub held_both : (slots : List (Option Slot)) (target : ℕ)
    → (stamp_at slots target ≡ None) ↔ (list_any (holds target) slots ≡ false)
held_both slots target = (absent_by_stamp target slots, stamp_at-absent target slots)

module _ (e : Slot) (slots : List (Option Slot)) (distinct : AreDistinct slots) where
  fits_held : list_any (holds e.target) slots ≡ true
      → Fits stamp_in_slot ◌==◌ eqb-true e.target (Some e.stamp) (holds e.target) (λ _. Some e) slots
  fits_held h = fits_key stamp_in_slot ◌==◌ eqb-true e.target (Some e.stamp) (λ _. Some e) slots h distinct (λ k d within. over e _)

  fits_free : list_any (holds e.target) slots ≡ false → list_any is_free_slot slots ≡ true
      → Fits stamp_in_slot ◌==◌ eqb-true e.target (Some e.stamp) is_free_slot (λ _. Some e) slots
  fits_free h room = fits_room stamp_in_slot ◌==◌ eqb-true e.target (Some e.stamp) is_free_slot (λ _. Some e) slots room
      (stamp_at-absent e.target slots h) (λ k d within i none. into e _ i)

  -- after a put the target has the edge, and every other target has what it had
  pub stamp_at-put_slot : has_room_for e.target slots ≡ true → (q : ℕ)
      → stamp_at (put_slot e slots) q ≡ cond (q == e.target) (Some e.stamp) (stamp_at slots q)
  stamp_at-put_slot room q =
      elim (list_any (holds e.target) slots) as (λ b. list_any (holds e.target) slots ≡ b → (b || list_any is_free_slot slots) ≡ true
      → stamp_at (cond b (at_first (holds e.target) (λ _. Some e) slots) (at_first is_free_slot (λ _. Some e) slots)) q
      ≡ cond (q == e.target) (Some e.stamp) (stamp_at slots q)) [
        | true ↦ λ t free. set_first stamp_in_slot ◌==◌ eqb-true e.target (Some e.stamp) (holds e.target) (λ _. Some e) slots
            (fits_held t) q
        | false ↦ λ t free. set_first stamp_in_slot ◌==◌ eqb-true e.target (Some e.stamp) is_free_slot (λ _. Some e) slots
            (fits_free t free) q
      ] refl room

  pub AreDistinct-put_slot : AreDistinct (put_slot e slots)
  AreDistinct-put_slot =
      elim (list_any (holds e.target) slots) as (λ b. list_any (holds e.target) slots ≡ b
      → AreDistinct (cond b (at_first (holds e.target) (λ _. Some e) slots) (at_first is_free_slot (λ _. Some e) slots))) [
        | true ↦ λ t. set_unique stamp_in_slot ◌==◌ eqb-true e.target (Some e.stamp) (holds e.target) (λ _. Some e) slots
            (fits_held t) distinct
        | false ↦ λ t. elim (cases_Bool (list_any is_free_slot slots)) [
          | inl free ↦ set_unique stamp_in_slot ◌==◌ eqb-true e.target (Some e.stamp) is_free_slot (λ _. Some e) slots
              (fits_free t free) distinct
          | inr full ↦ rw (at_first-none is_free_slot (λ _. Some e) slots full) distinct
        ]
      ] refl

module _ (target : ℕ) (slots : List (Option Slot)) (distinct : AreDistinct slots) where
  fits_taken : list_any (holds target) slots ≡ true → Fits stamp_in_slot ◌==◌ eqb-true target None (holds target) (λ _. None) slots
  fits_taken h = fits_key stamp_in_slot ◌==◌ eqb-true target None (λ _. None) slots h distinct (λ k d within. out_of target _)

  gone : (q : ℕ) → stamp_at slots target ≡ None → stamp_at slots q ≡ cond (q == target) None (stamp_at slots q)
  gone q none = grind (arith, common_steps)

  -- after a take the target has nothing, and every other target has what it had
  pub stamp_at-take_slot : (q : ℕ) → stamp_at (take_slot target slots) q ≡ cond (q == target) None (stamp_at slots q)
  stamp_at-take_slot q =
      elim (list_any (holds target) slots) as (λ b. list_any (holds target) slots ≡ b
      → stamp_at (take_slot target slots) q ≡ cond (q == target) None (stamp_at slots q)) [
        | true ↦ λ t. set_first stamp_in_slot ◌==◌ eqb-true target None (holds target) (λ _. None) slots (fits_taken t) q
        | false ↦ λ t. ap (λ xs. stamp_at xs q) (at_first-none (holds target) (λ _. None) slots t)
            ∙ gone q (stamp_at-absent target slots t)
      ] refl

  pub AreDistinct-take_slot : AreDistinct (take_slot target slots)
  AreDistinct-take_slot = elim (cases_Bool (list_any (holds target) slots)) [
    | inl held ↦ set_unique stamp_in_slot ◌==◌ eqb-true target None (holds target) (λ _. None) slots (fits_taken held) distinct
    | inr none ↦ rw (at_first-none (holds target) (λ _. None) slots none) distinct
  ]

-- an edge of the slots is found at its target, and what is found is an edge of the slots
edge_found : (slots : List (Option Slot)) → AreDistinct slots → (x : Slot) → Contains (edges_in slots) x
    → stamp_at slots x.target ≡ Some x.stamp
edge_found [] distinct x (k, within, is) = absurd (omega arith)
edge_found (None ∷ slots) distinct x there = edge_found slots distinct.1 x there
edge_found (Some e ∷ slots) distinct x there =
    elim (Contains-cons_cases e (edges_in slots) x there) [
      | inl same ↦ subst (λ (y : Slot). option_or (stamp_in_slot (Some y) x.target) (stamp_at slots x.target) ≡ Some x.stamp) (sym same)
          (rw (eq-eqb x.target x.target refl) refl)
      | inr later ↦
          let found : stamp_at slots x.target ≡ Some x.stamp = edge_found slots distinct.1 x later in
          elim (cases_eq x.target e.target) [
            | inl twice' ↦ (let none : stamp_at slots x.target
                ≡ None = distinct.0 x.target (rw (eq-eqb x.target e.target twice') refl) in cc)
            | inr ne ↦ rw (ne_eqb x.target e.target ne) found
          ]
    ]

found_edge : (slots : List (Option Slot)) (target : ℕ) (stamp : Stamp) → stamp_at slots target ≡ Some stamp →
    Contains (edges_in slots) (let e : Slot = record { target = target; stamp = stamp } in e)
found_edge [] target stamp found = cc
found_edge (None ∷ slots) target stamp found = found_edge slots target stamp found
found_edge (Some e ∷ slots) target stamp found =
    elim (cases_eq target e.target) [
      | inl here ↦
          let is : (let x : Option Stamp = Some e.stamp in x) ≡ Some stamp = rw (eq-eqb target e.target here) at found in
          let same : e.stamp ≡ stamp = cc in
          (0, omega arith, (λ i. record { target = sym here i; stamp = same i }))
      | inr ne ↦ Contains-cons e (edges_in slots) _ (found_edge slots target stamp (rw (ne_eqb target e.target ne) at found))
    ]

-- a block's entries are what stands in it
pub entry_stands : (b : BlockView) → AreDistinct b.slots → (key : Key) (stamp : Stamp) → Contains (entries_of b) (key, stamp)
    → StandsIn b key stamp
entry_stands b distinct key stamp (k, within, is) =
    let none : Slot = record { target = 0; stamp = stamp } in
    let few : k < length (edges_in b.slots) = omega (arith, length-map (edges_in b.slots) (entry_in b)) in
    let edge : Slot = get_or (edges_in b.slots) k none in
    let same : entry_in b edge ≡ (key, stamp) = sym (get_or-map (entry_in b) (edges_in b.slots) k none (key, stamp) few) ∙ is in
    subst (λ (entry : Key × Stamp). StandsIn b entry.0 entry.1) same
    (record {
      of_kind = refl;
      of_source = refl;
      stands = edge_found b.slots distinct edge (Contains-get_or (edges_in b.slots) k none few);
    })

pub standing_entry : (b : BlockView) (key : Key) (stamp : Stamp) → StandsIn b key stamp → Contains (entries_of b) (key, stamp)
standing_entry b key stamp h = grind (arith, common_steps, contains_map, found_edge)
