-- A name's place in a list, and whether it is listed.
use Rattle.std.proofs.Common.{◌≡◌, ℕ, suc, ◌+◌, ◌<◌, ◌≤◌, true, false, cond, not, List, [], ◌∷◌, length, Option, Some, None}
use Rattle.std.proofs.{Common.{sym, ◌∙◌, arith}, lemmas.Bool.ltb-false, lemmas.Grind.common_steps}
use Rattle.std.specs.{Prelude.bytes_eq, Prelude.position, Prelude.is_some, Prelude.IfSome}
use Rattle.graph_types.{specs.{Answer.is_listed, Step.number_of}, proofs.NameLists.any_before_end}

-- what the first place that fits says
pub record IsPlace (names : List (List ℕ)) (name : List ℕ) (place : Option ℕ) : Type 0 where
  pub listed : is_some place ≡ is_listed names name
  pub number : IfSome place (λ k. k ≡ number_of names name)

pub place_is : (names : List (List ℕ)) (name : List ℕ) (place : Option ℕ) → place ≡ position (bytes_eq name) names
    → IsPlace names name place
place_is names name place is = grind (arith, common_steps, any_before_end)

pub place_none : (names : List (List ℕ)) (name : List ℕ) → None ≡ position (bytes_eq name) names → is_listed names name ≡ false
place_none names name is = sym (place_is names name None is).listed

pub place_some : (names : List (List ℕ)) (name : List ℕ) (place : ℕ) → Some place ≡ position (bytes_eq name) names
    → is_listed names name ≡ true
place_some names name place is = sym (place_is names name (Some place) is).listed

pub place_number : (names : List (List ℕ)) (name : List ℕ) (place : ℕ) → Some place ≡ position (bytes_eq name) names
    → place ≡ number_of names name
place_number names name place is = (place_is names name (Some place) is).number

pub place_within : (names : List (List ℕ)) (name : List ℕ) (place : ℕ) → Some place ≡ position (bytes_eq name) names
    → place < length names
place_within names name place is = grind (arith, common_steps)

pub number_at_most : (names : List (List ℕ)) (name : List ℕ) → number_of names name ≤ length names
number_at_most [] name = omega arith
number_at_most (x ∷ xs) name =
    elim (bytes_eq name x) as (λ b. cond (not b) (1 + number_of xs name) 0 ≤ suc (length xs)) [
      | true ↦ omega arith
      | false ↦ omega (arith, number_at_most xs name)
    ]

-- the number of a name that is absent is the one after the last
pub number_absent : (names : List (List ℕ)) (name : List ℕ) → is_listed names name ≡ false → number_of names name ≡ length names
number_absent names name h =
    omega (arith, number_at_most names name, ltb-false _ _ (sym (any_before_end (bytes_eq name) names) ∙ h))

pub number_none : (names : List (List ℕ)) (name : List ℕ) → None ≡ position (bytes_eq name) names
    → number_of names name ≡ length names
number_none names name is = number_absent names name (place_none names name is)
