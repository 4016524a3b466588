-- A copy's list of pins, made seat by seat.
use Rattle.std.proofs.Common.{◌≡◌, ℕ, zero, suc, ◌+◌, ◌-◌, ◌<◌, ◌≤◌, List, [], ◌∷◌, ◌++◌, length, map, take, replicate, get_or}
use Rattle.std.proofs.Common.{set, Option, None, refl, ap, ◌∙◌, arith}

-- one more seat
set_next : {A B : Type 0} (f : A → B) (xs : List A) (i k : ℕ) (d : A) (e : B) → i < length xs
    → set (map f (take i xs) ++ replicate (suc k) e) i (f (get_or xs i d)) ≡ map f (take (suc i) xs) ++ replicate k e
set_next f [] i k d e h = absurd (omega arith)
set_next f (x ∷ xs) zero k d e h = refl
set_next f (x ∷ xs) (suc i) k d e h = ap (λ ys. f x ∷ ys) (set_next f xs i k d e (omega arith))

pub seat_next : {A B : Type 0} (pin : A → Option B) (pins : List (Option B)) (xs : List A) (i : ℕ) (d : A) → i < length xs
    → length xs ≤ 16 → pins ≡ map pin (take i xs) ++ replicate (16 - i) None
    → set pins i (pin (get_or xs i d)) ≡ map pin (take (i + 1) xs) ++ replicate (16 - (i + 1)) None
seat_next pin pins xs i d h few is =
    let left : 16 - i ≡ suc (16 - (i + 1)) = omega arith in
    let one : suc i ≡ i + 1 = omega arith in
    ap (λ ps. set ps i (pin (get_or xs i d))) (is ∙ ap (λ k. map pin (take i xs) ++ replicate k None) left)
    ∙ set_next pin xs i (16 - (i + 1)) d None h ∙ ap (λ j. map pin (take j xs) ++ replicate (16 - (i + 1)) None) one
