-- Numbers as a script writes them: decimal digits, the greatest place first.
use Rattle.std.specs.Prelude.{ℕ, ◌+◌, ◌-◌, ◌*◌, ◌^◌, nat_eq, nat_le, ◌&&◌, ℤ, pos, neg_ℤ, Bool, List, [], ◌∷◌, length, drop}
use Rattle.std.specs.{Prelude.{if◌then◌else◌, Option, Some, None, option_map}, Char.is_ascii_digit, List.{list_all, starts_with}}

-- the number that decimal digits stand for: each counts by its place
abbrev pub decimal_value : List ℕ → ℕ
decimal_value [] = 0
decimal_value (digit ∷ digits) = (digit - 48) * 10 ^ length digits + decimal_value digits

-- a number is 1 to 19 digits, and nothing else
abbrev pub number_in_text : List ℕ → Option ℕ
number_in_text text =
    if nat_le 1 (length text) && nat_le (length text) 19 && list_all is_ascii_digit text then Some (decimal_value text) else None

-- a number, where there is one and it is at most so much
abbrev pub at_most : ℕ → Option ℕ → Option ℕ
at_most most None = None
at_most most (Some number) = if nat_le number most then Some number else None

-- a time is at most 2^63 - 1
abbrev pub time_of : List ℕ → Option ℕ
time_of text = at_most 9223372036854775807 (number_in_text text)

-- a slot is below 16
abbrev pub slot_of : List ℕ → Option ℕ
slot_of text = at_most 15 (number_in_text text)

-- a weight, or an amount, is from -2^40 to 2^40: a number, which may stand behind a minus
abbrev pub has_minus : List ℕ → Bool
has_minus text = starts_with nat_eq text (45 ∷ [])

abbrev pub magnitude_of : List ℕ → Option ℕ
magnitude_of text = at_most 1099511627776 (number_in_text text)

abbrev pub weight_of : List ℕ → Option ℤ
weight_of text =
    if has_minus text then option_map (λ size. neg_ℤ (pos size)) (magnitude_of (drop 1 text))
    else option_map pos (magnitude_of text)
