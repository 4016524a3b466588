-- A list whose first elements are mapped, one more at a time.
use Rattle.std.proofs.Common.{◌≡◌, ℕ, zero, suc, ◌+◌, ◌<◌, ◌≤◌, List, [], ◌∷◌, map, length, get_or, set, refl, ap, arith}
use Rattle.std.proofs.lemmas.Grind.{common_steps}

-- f of so many first elements
abbrev pub map_first : {A : Type 0} → (A → A) → ℕ → List A → List A
map_first f zero xs = xs
map_first f (suc k) [] = []
map_first f (suc k) (x ∷ xs) = f x ∷ map_first f k xs

map_first_next : {A : Type 0} (f : A → A) (k : ℕ) (xs : List A) (y d : A) → k < length xs → y ≡ f (get_or xs k d)
    → set (map_first f k xs) k y ≡ map_first f (suc k) xs
map_first_next f k [] y d lt e = absurd (omega arith)
map_first_next f zero (x ∷ xs) y d lt e = ap (λ z. z ∷ xs) e
map_first_next f (suc k) (x ∷ xs) y d lt e = ap (λ ys. f x ∷ ys) (map_first_next f k xs y d (omega arith) e)

pub map_first_more : {A : Type 0} (f : A → A) (k : ℕ) (xs : List A) (y d : A) → k < length xs → y ≡ f (get_or xs k d)
    → set (map_first f k xs) k y ≡ map_first f (k + 1) xs
map_first_more f k xs y d lt e = grind (arith, common_steps, map_first_next)

pub map_first_there : {A : Type 0} (f : A → A) (k : ℕ) (xs : List A) (d : A) → get_or (map_first f k xs) k d ≡ get_or xs k d
map_first_there f zero xs d = refl
map_first_there f (suc k) [] d = refl
map_first_there f (suc k) (x ∷ xs) d = map_first_there f k xs d

pub map_first_all : {A : Type 0} (f : A → A) (k : ℕ) (xs : List A) → length xs ≤ k → map_first f k xs ≡ map f xs
map_first_all f zero [] le = refl
map_first_all f zero (x ∷ xs) le = absurd (omega arith)
map_first_all f (suc k) [] le = refl
map_first_all f (suc k) (x ∷ xs) le = ap (λ ys. f x ∷ ys) (map_first_all f k xs (omega arith))

pub map_first_long : {A : Type 0} (f : A → A) (k : ℕ) (xs : List A) → length (map_first f k xs) ≡ length xs
map_first_long f zero xs = refl
map_first_long f (suc k) [] = refl
map_first_long f (suc k) (x ∷ xs) = ap suc (map_first_long f k xs)
