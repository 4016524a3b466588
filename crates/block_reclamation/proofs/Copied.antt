-- The floor of a copy is the least of the last number and all pins.
use Rattle.std.proofs.Common.{◌≡◌, ℕ, ◌≤◌, inl, inr, Bool, true, false, not, List, map, get_or, Option, Some, None, IfSome}
use Rattle.std.proofs.{Common.{IsSomeAnd, refl, sym, ap, subst, ◌∙◌, arith}, Math.ListN.get_or-map}
use Rattle.block_reclamation.specs.{declared.copies.Pin.Pin, Copies.{pin_at, copy_of, number_if, settled_number}}
use Rattle.block_reclamation.specs.{Copies.{unsettled_number, least_of, floor_of}, Board.IsLeast}
use Rattle.block_reclamation.proofs.Least.{least_below, least_each, least_reached}

below_if : (pins : List (Option Pin)) (last seat : ℕ) (pin : Pin) (b : Bool) → pin.is_settled ≡ b
    → pin_at pins seat ≡ Some pin → floor_of (copy_of last pins) ≤ pin.number
below_if pins last seat pin true is at =
    let there : get_or (map settled_number pins) seat None ≡ Some pin.number =
    get_or-map settled_number pins seat None ∙ ap settled_number at ∙ ap (λ t. number_if t pin.number) is in
    let first : least_of last (map settled_number pins) ≤ pin.number =
    least_each last (map settled_number pins) seat pin.number there in
    let rest = least_below (least_of last (map settled_number pins)) (map unsettled_number pins) in
    omega arith
below_if pins last seat pin false is at =
    let there : get_or (map unsettled_number pins) seat None ≡ Some pin.number =
    get_or-map unsettled_number pins seat None ∙ ap unsettled_number at ∙ ap (λ t. number_if (not t) pin.number) is in
    least_each (least_of last (map settled_number pins)) (map unsettled_number pins) seat pin.number there

below_each : (pins : List (Option Pin)) (last seat : ℕ) (o : Option Pin) → pin_at pins seat ≡ o
    → IfSome o (λ pin. floor_of (copy_of last pins) ≤ pin.number)
below_each pins last seat None at = tt
below_each pins last seat (Some pin) at = below_if pins last seat pin pin.is_settled refl at

number_is : (b : Bool) (n m : ℕ) → number_if b n ≡ Some m → n ≡ m
number_is true n m is = cc
number_is false n m is = cc

settled_is : (o : Option Pin) (m : ℕ) → settled_number o ≡ Some m → IsSomeAnd o (λ pin. pin.number ≡ m)
settled_is None m is = cc
settled_is (Some pin) m is = number_is pin.is_settled pin.number m is

unsettled_is : (o : Option Pin) (m : ℕ) → unsettled_number o ≡ Some m → IsSomeAnd o (λ pin. pin.number ≡ m)
unsettled_is None m is = cc
unsettled_is (Some pin) m is = number_is (not pin.is_settled) pin.number m is

pub floor_is_least : (last : ℕ) (pins : List (Option Pin)) → IsLeast last pins (floor_of (copy_of last pins))
floor_is_least last pins =
    let first : ℕ = least_of last (map settled_number pins) in
    record {
      below_last =
          let a = least_below last (map settled_number pins) in
          let b = least_below first (map unsettled_number pins) in omega arith;
      below_pins = λ seat. below_each pins last seat (pin_at pins seat) refl;
      reached = elim (least_reached first (map unsettled_number pins)) [
        | inl is ↦ elim (least_reached last (map settled_number pins)) [
          | inl whole ↦ inl (is ∙ whole)
          | inr one ↦ inr (
            one.0,
            subst (λ m. IsSomeAnd (pin_at pins one.0) (λ pin. pin.number ≡ m)) (sym is)
                (settled_is (pin_at pins one.0) first (sym (get_or-map settled_number pins one.0 None) ∙ one.1)),
          )
        ]
        | inr one ↦ inr (
          one.0,
          unsettled_is (pin_at pins one.0) (floor_of (copy_of last pins))
              (sym (get_or-map unsettled_number pins one.0 None) ∙ one.1),
        )
      ];
    }
