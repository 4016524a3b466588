-- The notes of a block's targets, edge by edge as it lends them.
use Rattle.std.proofs.Common.{◌≡◌, ℕ, ◌<◌, ◌==◌, true, false, List, [], inl, inr, arith, ◌||◌, not, ◌∷◌, ◌++◌, length}
use Rattle.std.proofs.{Common.{get_or, set, map, refl, sym, ap, ◌∙◌}, lemmas.Bool.{eqb-true, eqb-false, eq-eqb}}
use Rattle.std.proofs.lemmas.{Bool.{or_cases, or_left, or_right}, List.{get_or-map, get_or-set_same}}
use Rattle.std.proofs.lemmas.List.{get_or-set_other, map-set, Folds.list_any-append}
use Rattle.std.{proofs.Math.ListN.length-set, specs.Prelude.nat_lt}
use Rattle.std.specs.declared.{vec.Vec.Vec, alloc.Global.Global}
use Rattle.std.proofs.lemmas.Grind.{common_steps}
use Rattle.batch_shards.specs.{Notes.{may_stand, list_of, places_in, stands, HasMore}, declared.notes.Notes.Notes}

-- a place more in one of the lists
module _ (n : Notes) (list place : ℕ) (v w : Vec ℕ Global) (places : Vec (Vec ℕ Global) Global)
    (at : v ≡ get_or n.places.items list v) (lt : list < length n.places.items) (longer : w.items ≡ v.items ++ place ∷ [])
    (are : places.items ≡ set n.places.items list w) where
  abbrev noted : Notes
  noted = record n { places = places }

  same_length : length places.items ≡ length n.places.items
  same_length = ap length are ∙ length-set n.places.items list w

  old_list : get_or (places_in n) list [] ≡ v.items
  old_list = get_or-map (λ (l : Vec ℕ Global). l.items) n.places.items list v [] lt ∙ ap (λ (l : Vec ℕ Global). l.items) (sym at)

  new_list : get_or (places_in noted) list [] ≡ v.items ++ place ∷ []
  new_list =
      ap (λ (ls : List (Vec ℕ Global)). get_or (map (λ (l : Vec ℕ Global). l.items) ls) list []) are
      ∙ get_or-map (λ (l : Vec ℕ Global). l.items) (set n.places.items list w) list v []
      (omega (arith, length-set n.places.items list w))
      ∙ ap (λ (l : Vec ℕ Global). l.items) (get_or-set_same n.places.items list w v lt) ∙ longer

  other_list : (k : ℕ) → (k ≡ list → ⊥) → get_or (places_in noted) k [] ≡ get_or (places_in n) k []
  other_list k ne = grind (arith, common_steps, map-set, get_or-set_other)

  longer_list : (i : ℕ) → stands (v.items ++ place ∷ []) i ≡ (stands v.items i || stands (place ∷ []) i)
  longer_list i = list_any-append (λ p. p == i) v.items (place ∷ [])

  pub now_stands : (target : ℕ) → list ≡ list_of n target → may_stand noted target place ≡ true
  now_stands target is = grind (arith, common_steps, or_right, new_list, longer_list, or_left, eq-eqb)

  pub more_stand : HasMore n noted
  more_stand = record {
    stays = λ t i may.
        let k : ℕ = list_of n t in
        elim (or_cases (not (nat_lt k (length n.places.items))) (stands (get_or (places_in n) k []) i) may) [
          | inl none ↦ or_left (not (nat_lt k (length places.items))) (stands (get_or (places_in noted) k []) i)
              (ap (λ m. not (nat_lt k m)) same_length ∙ none)
          | inr there ↦ or_right (not (nat_lt k (length places.items))) (stands (get_or (places_in noted) k []) i)
              (elim (k == list) as (λ b. k == list ≡ b → stands (get_or (places_in noted) k []) i ≡ true) [
                | true ↦ λ s.
                    let same : k ≡ list = eqb-true k list s in
                    ap (λ m. stands (get_or (places_in noted) m []) i) same ∙ ap (λ ps. stands ps i) new_list ∙ longer_list i
                    ∙ or_left (stands v.items i) (stands (place ∷ []) i)
                    (ap (λ ps. stands ps i) (sym old_list) ∙ ap (λ m. stands (get_or (places_in n) m []) i) (sym same) ∙ there)
                | false ↦ λ s. ap (λ ps. stands ps i) (other_list k (eqb-false k list s)) ∙ there
              ] refl)
        ];
  }
