-- Lemmas on the value of decimal digits.
use Rattle.std.proofs.Common.{◌≡◌, ℕ, suc, ◌+◌, ◌-◌, ◌*◌, ◌^◌, ◌<◌, ◌≤◌, List, [], ◌∷◌, ◌++◌, length, Bool, false, refl, true}
use Rattle.std.proofs.{Common.{◌&&◌, arith, length-append}, lemmas.Bool.and_parts, Math.Nat.pow-suc}
use Rattle.std.{proofs.Math.Nat.pow-le-pow_right, specs.{Char.is_ascii_digit, List.list_all}}
use Rattle.graph_types.proofs.Numbers.{place, below_place, digit-le}
use Rattle.feed_csv.specs.Number.{decimal_value}

-- one more digit at the end moves each other by a place
pub decimal_value-push : (digits : List ℕ) (digit : ℕ)
    → decimal_value (digits ++ (digit ∷ [])) ≡ decimal_value digits * 10 + (digit - 48)
decimal_value-push [] digit = omega arith
decimal_value-push (first ∷ rest) digit =
    let longer : length (rest ++ (digit ∷ [])) ≡ suc (length rest) = omega (arith, length-append rest (digit ∷ [])) in
    place (10 ^ length rest) _ (first - 48) (decimal_value rest) _ (digit - 48) (rw longer (pow-suc 10 (length rest)))
    (decimal_value-push rest digit)

-- the value is below the next power of ten
pub decimal_value-lt : (digits : List ℕ) → list_all is_ascii_digit digits ≡ true → decimal_value digits < 10 ^ length digits
decimal_value-lt [] all = omega arith
decimal_value-lt (first ∷ rest) all =
    let each = and_parts (is_ascii_digit first) (list_all is_ascii_digit rest) all in
    rw (pow-suc 10 (length rest)) (below_place (first - 48) (10 ^ length rest) (decimal_value rest) (digit-le first each.0)
    (decimal_value-lt rest each.1))

-- the digits before the last of 19
pub decimal_value-lt_19 : (digits : List ℕ) → list_all is_ascii_digit digits ≡ true → length digits < 19
    → decimal_value digits < 10 ^ 18
decimal_value-lt_19 digits all few =
    let shorter : length digits ≤ 18 = omega arith in
    let power : 10 ^ length digits ≤ 10 ^ 18 = pow-le-pow_right (omega arith) shorter in
    omega (arith, power, decimal_value-lt digits all)
