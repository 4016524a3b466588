-- Numbers as decimal digits, and back.
use Rattle.std.proofs.Common.{◌≡◌, ℕ, suc, ◌<◌, ◌≤◌, ◌^◌, List, [], ◌∷◌, length, true, false, Some, ℤ, pos, negsuc, nat_eq, nat_le}
use Rattle.std.proofs.Common.{arith, decimal, refl, rules}
use Rattle.std.proofs.lemmas.{Bool.{and_parts, Decides.nat_tests}, Str.Parse.{IsNumeralModel, numerals_by_weight}}
use Rattle.std.proofs.lemmas.Fmt.{decimal_nonempty, digits_decimal, digits_value-decimal, length-decimal-le}
use Rattle.std.specs.{Char.is_ascii_digit, List.list_all, Fmt.signed_decimal}
use Rattle.graph_types.specs.Limits.{is_time, is_weight}
use Rattle.graph_types.proofs.Numbers.{is_below}
use Rattle.feed_csv.specs.Number.{decimal_value, has_minus, magnitude_of, number_in_text, time_of, weight_of}

abbrev are_digits : List ℕ → Type 0
are_digits text = list_all is_ascii_digit text ≡ true

own : IsNumeralModel are_digits decimal_value
own = numerals_by_weight are_digits (search rules) decimal_value (search rules)

at_most_is : (a b : ℕ) → a ≤ b → nat_le a b ≡ true
at_most_is a b low = grind (arith, nat_tests)

number_is : (text : List ℕ) (n : ℕ) → 1 ≤ length text → length text ≤ 19 → list_all is_ascii_digit text ≡ true
    → decimal_value text ≡ n → number_in_text text ≡ Some n
number_is text n some few digits value =
    rw (at_most_is 1 (length text) some, at_most_is (length text) 19 few, digits, value) refl

number_read : (n : ℕ) → n < 2 ^ 63 → number_in_text (decimal n) ≡ Some n
number_read n small =
    number_is (decimal n) n (decimal_nonempty n (omega arith)) (length-decimal-le 19 n (omega arith) (omega arith) (omega arith))
    (digits_decimal own n (omega arith)) (digits_value-decimal own n (omega arith))

pub time_read : (time : ℕ) → is_time time ≡ true → time_of (decimal time) ≡ Some time
time_read time is =
    let small : time < 2 ^ 63 = is_below time (2 ^ 63) is in
    rw (number_read time small, at_most_is time 9223372036854775807 (omega arith)) refl

magnitude_read : (size : ℕ) → size ≤ 2 ^ 40 → magnitude_of (decimal size) ≡ Some size
magnitude_read size low =
    rw (number_read size (omega arith), at_most_is size 1099511627776 (omega arith)) refl

digit_no_minus : (c : ℕ) → is_ascii_digit c ≡ true → nat_eq 45 c ≡ false
digit_no_minus c digit = grind (arith, nat_tests)

no_minus : (text : List ℕ) → 1 ≤ length text → list_all is_ascii_digit text ≡ true → has_minus text ≡ false
no_minus [] some digits = absurd (omega arith)
no_minus (c ∷ cs) some digits =
    rw (digit_no_minus c (and_parts (is_ascii_digit c) (list_all is_ascii_digit cs) digits).0) refl

not_above : (a b : ℕ) → nat_le a b ≡ true → a ≤ b
not_above a b is = grind (arith, nat_tests)

pub weight_read : (weight : ℤ) → is_weight weight ≡ true → weight_of (signed_decimal weight) ≡ Some weight
weight_read (pos n) is =
    let low : n ≤ 2 ^ 40 = not_above n (2 ^ 40) is in
    let plain = no_minus (decimal n) (decimal_nonempty n (omega arith)) (digits_decimal own n (omega arith)) in
    rw (plain, magnitude_read n low) refl
weight_read (negsuc n) is =
    let low : suc n ≤ 2 ^ 40 = not_above (suc n) (2 ^ 40) is in
    rw (magnitude_read (suc n) low) refl
