-- Pins that are put in their places one after the other.
use Rattle.std.proofs.Common.{◌≡◌, ℕ, zero, suc, ◌+◌, ◌-◌, ◌<◌, ◌++◌, Bool, false, List, [], ◌∷◌, length, take, replicate, set, get_or}
use Rattle.std.proofs.{Common.{refl, ap, ◌∙◌, arith}, lemmas.Grind.common_steps}
use Rattle.std.specs.declared.option.Option.{Option, TheVariants.{None, Some}}
use Rattle.std.specs.Prelude.{is_some, unwrap_or}
use Rattle.block_reclamation.specs.Copies.{number_if}
use Rattle.desk.specs.Copies.{kept_pins, kept_pin}

-- the pins up to a place, and none behind
abbrev pub filled : List (Option ℕ) → ℕ → ℕ → List (Option ℕ)
filled pins seat more = take seat pins ++ replicate more None

fill : (pins : List (Option ℕ)) (seat more : ℕ) → seat < length pins
    → set (filled pins seat (suc more)) seat (kept_pin pins seat) ≡ filled pins (suc seat) more
fill [] seat more low = absurd (omega arith)
fill (p ∷ pins) zero more low = refl
fill (p ∷ pins) (suc seat) more low = ap (λ ps. p ∷ ps) (fill pins seat more (omega arith))

pub filled_next : (pins done : List (Option ℕ)) (pin : Option ℕ) (seat many : ℕ) → length pins ≡ many → seat < many
    → done ≡ filled pins seat (many - seat) → pin ≡ kept_pin pins seat
    → set done seat pin ≡ filled pins (seat + 1) (many - (seat + 1))
filled_next pins done pin seat many long low is same =
    let one : many - seat ≡ suc (many - (seat + 1)) = omega arith in
    let next : suc seat ≡ seat + 1 = omega arith in
    (λ i. set ((is ∙ ap (filled pins seat) one) i) seat (same i)) ∙ fill pins seat (many - (seat + 1)) (omega arith)
    ∙ ap (λ n. filled pins n (many - (seat + 1))) next

-- once all are in their places
pub filled_all : (pins done : List (Option ℕ)) (seat many : ℕ) → length pins ≡ many → seat ≡ many
    → done ≡ filled pins seat (many - seat) → done ≡ pins
filled_all pins done seat many long end is = grind (arith, common_steps)

pub length-pins : (there : List Bool) (numbers : List ℕ) → length there ≡ length numbers
    → length (kept_pins there numbers) ≡ length there
length-pins [] [] same = refl
length-pins [] (n ∷ numbers) same = refl
length-pins (t ∷ there) [] same = omega arith
length-pins (t ∷ there) (n ∷ numbers) same = ap suc (length-pins there numbers (omega arith))

-- a pin that is put in its place, by its number and by whether it is there
pub pins_set : (there : List Bool) (numbers : List ℕ) (seat : ℕ) (pin : Option ℕ) → length there ≡ length numbers
    → kept_pins (set there seat (is_some pin)) (set numbers seat (unwrap_or pin 0)) ≡ set (kept_pins there numbers) seat pin
pins_set [] [] seat pin same = refl
pins_set [] (n ∷ numbers) seat pin same = cc
pins_set (t ∷ there) [] seat pin same = cc
pins_set (t ∷ there) (n ∷ numbers) zero None same = refl
pins_set (t ∷ there) (n ∷ numbers) zero (Some x) same = refl
pins_set (t ∷ there) (n ∷ numbers) (suc seat) pin same =
    ap (λ ps. number_if t n ∷ ps) (pins_set there numbers seat pin (omega arith))

pub pins_at : (there : List Bool) (numbers : List ℕ) (seat : ℕ) → length there ≡ length numbers
    → kept_pin (kept_pins there numbers) seat ≡ number_if (get_or there seat false) (get_or numbers seat 0)
pins_at [] [] seat same = refl
pins_at [] (n ∷ numbers) seat same = cc
pins_at (t ∷ there) [] seat same = cc
pins_at (t ∷ there) (n ∷ numbers) zero same = refl
pins_at (t ∷ there) (n ∷ numbers) (suc seat) same = pins_at there numbers seat (omega arith)
