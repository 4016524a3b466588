-- The targets of slots, the first slot that has one, and what a change of a slot leaves of them.
use Rattle.std.proofs.Common.{◌≡◌, ℕ, zero, suc, ◌+◌, ◌<◌, Bool, true, false, cond, ◌⊎◌, List, [], ◌∷◌, map, length, get_or, take}
use Rattle.std.proofs.Common.{set, ◌==◌, Some, None, All, Option, inl, inr, refl, sym, ap, subst, ◌∙◌, arith}
use Rattle.std.proofs.lemmas.{Bool.{false≢true, or_cases, or_right, or_left}, Grind.common_steps}
use Rattle.std.proofs.lemmas.List.{get_or-map, length-map, map-set, Elements.{All-tail, All-head}, Quantifiers.position-Some}
use Rattle.std.specs.{List.{list_any, position}, Option.{is_some, option_or}, Prelude.replicate}
use Rattle.graph_types.specs.{Graph.{Stamp, IsWeight, IsTime}, Step.{stamp_after, outcome_at}}
use Rattle.graph_types.specs.declared.changes.EdgeChange.{EdgeChange}
use Rattle.graph_types.proofs.Cases.{none_is}
use Rattle.edge_block.specs.Rows.{OpenBlock, has_edge, open_at, touches, set_edge, put_edge}
use Rattle.edge_block.specs.Slots.{first_some, at_first, Slot, holds, put_slot, take_slot, IsSlot, stamp_at}
use Rattle.edge_block.proofs.{Firsts.at_first-set, SlotLaws.target_of_edge}

module _ {A B : Type 0} (f : A → Option B) where
  -- where the first elements have nothing, the list has what the others have
  pub first_after : (xs : List A) (i : ℕ) (d : A) → i < length xs → first_some f (take i xs) ≡ None
      → is_some (f (get_or xs i d)) ≡ true → first_some f xs ≡ f (get_or xs i d)
  first_after [] i d lt none is = absurd (omega arith)
  first_after (x ∷ xs) zero d lt none is = grind (arith, common_steps)
  first_after (x ∷ xs) (suc i) d lt none is = left (f x) (first_some f (take i xs)) (first_some f xs) _ none
      (λ rest. first_after xs i d (omega arith) rest is) where
        left : (a b c e : Option B) → option_or a b ≡ None → (b ≡ None → c ≡ e) → option_or a c ≡ e
        left None b c e none go = go none
        left (Some y) b c e none go = cc

  -- one element more that has nothing
  pub none_more : (xs : List A) (i : ℕ) (d : A) → i < length xs → first_some f (take i xs) ≡ None → f (get_or xs i d) ≡ None
      → first_some f (take (i + 1) xs) ≡ None
  none_more [] i d lt none here = absurd (omega arith)
  none_more (x ∷ xs) zero d lt none here = rw here refl
  none_more (x ∷ xs) (suc i) d lt none here =
      let further : suc (i + 1) ≡ suc i + 1 = omega arith in
      ap (λ n. first_some f (take n (x ∷ xs))) (sym further)
      ∙ both (f x) (first_some f (take i xs)) _ none (λ rest. none_more xs i d (omega arith) rest here) where
        both : (a b c : Option B) → option_or a b ≡ None → (b ≡ None → c ≡ None) → option_or a c ≡ None
        both None b c none go = go none
        both (Some y) b c none go = cc

any_at_first : {A : Type 0} (q p : A → Bool) (f : A → A) (xs : List A) → list_any q (at_first p f xs) ≡ true
    → (list_any q xs ≡ true) ⊎ ((x : A) × (q (f x) ≡ true))
any_at_first q p f [] h = absurd (false≢true h)
any_at_first {A} q p f (x ∷ xs) h =
    elim (p x) as (λ b. list_any q (cond b (f x ∷ xs) (x ∷ at_first p f xs)) ≡ true
    → (list_any q (x ∷ xs) ≡ true) ⊎ ((x : A) × (q (f x) ≡ true))) [
      | true ↦ λ h. elim (or_cases (q (f x)) (list_any q xs) h) [
        | inl here ↦ inr (x, here)
        | inr rest ↦ inl (or_right (q x) (list_any q xs) rest)
      ]
      | false ↦ λ h. elim (or_cases (q x) (list_any q (at_first p f xs)) h) [
        | inl here ↦ inl (or_left (q x) (list_any q xs) here)
        | inr rest ↦ elim (any_at_first q p f xs rest) [
          | inl there ↦ inl (or_right (q x) (list_any q xs) there)
          | inr new ↦ inr new
        ]
      ]
    ] h

pub put_targets : (e : Slot) (slots : List (Option Slot)) (t : ℕ) → list_any (holds t) (put_slot e slots) ≡ true
    → (list_any (holds t) slots ≡ true) ⊎ (t ≡ e.target)
put_targets e slots t h = grind (arith, common_steps, any_at_first, target_of_edge)

pub take_targets : (target : ℕ) (slots : List (Option Slot)) (t : ℕ) → list_any (holds t) (take_slot target slots) ≡ true
    → list_any (holds t) slots ≡ true
take_targets target slots t h = grind (arith, common_steps, any_at_first, false≢true)

pub no_target : (n t : ℕ) → list_any (holds t) (replicate n None) ≡ true → ⊥
no_target zero t h = false≢true h
no_target (suc n) t h = no_target n t h

-- the first one that passes is changed
pub first_changed : {A B : Type 0} (f : A → B) (q : B → Bool) (g : B → B) (xs : List A) (i : ℕ) (y d : A)
    → position (λ x. q (f x)) xs ≡ Some i
    → f y ≡ g (f (get_or xs i d)) → at_first q g (map f xs) ≡ map f (set xs i y)
first_changed f q g xs i y d h e =
    let at = position-Some (λ x. q (f x)) xs i d h in
    let same : (k : ℕ) → k < length xs → get_or (map f xs) k (f d) ≡ f (get_or xs k d) = λ k lt. get_or-map f xs k d (f d) lt in
    let long : length (map f xs) ≡ length xs = length-map xs f in
    at_first-set q g (map f xs) i (f d) (omega (arith, at.0)) (ap q (same i at.0) ∙ at.1)
    (λ k below. ap q (same k (omega (arith, at.0))) ∙ at.2 k below)
    ∙ ap (set (map f xs) i) (ap g (same i at.0) ∙ sym e)
    ∙ sym (map-set f xs i y)

-- what the first element has that has something
pub first_has : {A B : Type 0} (f : A → Option B) (xs : List A) (i : ℕ) (d : A) → position (λ x. is_some (f x)) xs ≡ Some i
    → first_some f xs ≡ f (get_or xs i d)
first_has f xs i d h =
    let at = position-Some (λ x. is_some (f x)) xs i d h in
    go f xs i d at.0 at.1 at.2
  where
    some : {B : Type 0} (a b : Option B) → is_some a ≡ true → option_or a b ≡ a
    some None b h = absurd (false≢true h)
    some (Some x) b h = refl

    go : {A B : Type 0} (f : A → Option B) (xs : List A) (i : ℕ) (d : A) → i < length xs → is_some (f (get_or xs i d)) ≡ true
        → ((k : ℕ) → k < i → is_some (f (get_or xs k d)) ≡ false) → first_some f xs ≡ f (get_or xs i d)
    go f [] i d lt is before = absurd (omega arith)
    go f (x ∷ xs) zero d lt is before = some (f x) (first_some f xs) is
    go f (x ∷ xs) (suc i) d lt is before =
        ap (λ o. option_or o (first_some f xs)) (none_is (f x) (before 0 (omega arith)))
        ∙ go f xs i d (omega arith) is (λ k below. before (suc k) (omega arith))

-- an edge in a slot has a weight and times in range
pub stamped_at : (slots : List (Option Slot)) (target : ℕ) (s : Stamp) → All IsSlot slots → stamp_at slots target ≡ Some s
    → IsWeight s.weight × IsTime s.first × IsTime s.recent
stamped_at [] target s all h = cc
stamped_at (None ∷ slots) target s all h = stamped_at slots target s (All-tail IsSlot None slots all) h
stamped_at (Some e ∷ slots) target s all h =
    let here : IsSlot (Some e) = All-head IsSlot (Some e) slots all in
    elim (target == e.target) as (λ b. option_or (cond b (Some e.stamp) None) (stamp_at slots target) ≡ Some s
    → IsWeight s.weight × IsTime s.first × IsTime s.recent) [
      | true ↦ λ i. let same : e.stamp ≡ s = cc in subst (λ (t : Stamp). IsWeight t.weight × IsTime t.first × IsTime t.recent)
          same here
      | false ↦ λ i. stamped_at slots target s (All-tail IsSlot (Some e) slots all) i
    ] h

-- a block with the edge is of the kind, and its slots have it
pub edge_kind : (kind target : ℕ) (h : OpenBlock) → has_edge (kind, target) h ≡ true
    → open_at h (kind, target) ≡ stamp_at h.shape.slots target
edge_kind kind target h is = grind (arith, common_steps, false≢true)

-- an operation on an edge that is absent
pub absent_puts : (change : EdgeChange) (place : ℕ × ℕ) (row : List OpenBlock) (s : Stamp) → Some s ≡ stamp_after change None
    → cond (touches (outcome_at change None)) (set_edge place (stamp_after change None) row) row ≡ put_edge place.0
    (record { target = place.1; stamp = s }) row
absent_puts change place row s e = grind (arith, common_steps)

pub absent_stays : (change : EdgeChange) (place : ℕ × ℕ) (row : List OpenBlock) → None ≡ stamp_after change None
    → cond (touches (outcome_at change None)) (set_edge place (stamp_after change None) row) row ≡ row
absent_stays change place row e = grind (arith, common_steps)
