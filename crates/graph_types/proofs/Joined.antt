-- Lists that are joined from pieces, and lists of numbered elements.
use Rattle.std.proofs.Common.{◌≡◌, ℕ, zero, suc, ◌+◌, ◌<◌, List, [], ◌∷◌, ◌++◌, map, length, get_or, take, set, replicate}
use Rattle.std.proofs.{Common.{flat_map, add-one, refl, sym, ap, ap₂, ◌∙◌, arith}, lemmas.Grind.flat_map-append}
use Rattle.std.proofs.lemmas.List.{map-append, append-nil, append_assoc, FromFn.map-range_with_len_more}
use Rattle.std.specs.{List.{enumerate_from, range_with_len}, Option.option_map, Prelude.slice_get}
use Rattle.std.specs.declared.option.Option.TheVariants.{Some}

pub map-pieces : {X A B : Type 0} (f : A → B) (g : X → List A) (xs : List X)
    → map f (flat_map g xs) ≡ flat_map (λ x. map f (g x)) xs
map-pieces f g [] = refl
map-pieces f g (x ∷ xs) = map-append f (g x) (flat_map g xs) ∙ ap (λ r. map f (g x) ++ r) (map-pieces f g xs)

pub none_of : {X A : Type 0} (xs : List X) → (let f : X → List A = λ _. [] in flat_map f xs) ≡ []
none_of [] = refl
none_of (x ∷ xs) = none_of xs

-- a list of pieces, with one more
pub one_piece : {A B : Type 0} (f : A → List B) (xs : List A) (x : A) → flat_map f (xs ++ x ∷ []) ≡ flat_map f xs ++ f x
one_piece f xs x = flat_map-append f xs (x ∷ []) ∙ ap (λ ys. flat_map f xs ++ ys) (append-nil (f x))

-- pieces that stay
pub flat_map-set : {A B : Type 0} (f : A → List B) (xs : List A) (i : ℕ) (y d : A) → i < length xs → f y ≡ f (get_or xs i d)
    → flat_map f (set xs i y) ≡ flat_map f xs
flat_map-set f [] i y d lt e = absurd (omega arith)
flat_map-set f (x ∷ xs) zero y d lt e = ap (λ p. p ++ flat_map f xs) e
flat_map-set f (x ∷ xs) (suc i) y d lt e = ap (λ r. f x ++ r) (flat_map-set f xs i y d (omega arith) e)

pub enumerated_last : {A : Type 0} (k : ℕ) (xs : List A) (x : A) (m : ℕ) → m ≡ length xs + k
    → enumerate_from k (xs ++ x ∷ []) ≡ enumerate_from k xs ++ (m, x) ∷ []
enumerated_last k [] x m e = let same : k ≡ m = omega arith in ap (λ n. (n, x) ∷ []) same
enumerated_last k (y ∷ xs) x m e = ap (λ l. (k, y) ∷ l) (enumerated_last (k + 1) xs x m (omega arith))

pub flat_same : {A : Type 0} (f g : ℕ → List A) (xs : List ℕ) → ((s : ℕ) → f s ≡ g s) → flat_map f xs ≡ flat_map g xs
flat_same f g [] each = refl
flat_same f g (x ∷ xs) each = ap₂ (λ a b. a ++ b) (each x) (flat_same f g xs each)

pub none_more : (xs : List ℕ) → xs ++ [] ≡ xs
none_more [] = refl
none_more (x ∷ xs) = ap (λ l. x ∷ l) (none_more xs)

pieces_more : {A B : Type 0} (f : A → List B) (xs : List A) (i : ℕ) (x : A) → slice_get xs i ≡ Some x
    → flat_map f (take i xs) ++ f x ≡ flat_map f (take (suc i) xs)
pieces_more f [] i x is = cc
pieces_more f (y ∷ ys) zero x is = let same : y ≡ x = cc in ap f (sym same) ∙ sym (append-nil (f y))
pieces_more f (y ∷ ys) (suc i) x is =
    append_assoc (f y) (flat_map f (take i ys)) (f x) ∙ ap (λ zs. f y ++ zs) (pieces_more f ys i x is)

-- the pieces of the first elements, and that of the next one
pub one_piece_more : {A B : Type 0} (f : A → List B) (xs : List A) (i : ℕ) (x : A) → slice_get xs i ≡ Some x
    → flat_map f (take i xs) ++ f x ≡ flat_map f (take (i + 1) xs)
one_piece_more f xs i x is = pieces_more f xs i x is ∙ ap (λ n. flat_map f (take n xs)) (sym (add-one i))

-- each element with its session
pub get_enumerated : {A B : Type 0} (f : ℕ → A → B) (n : ℕ) (xs : List A) (k : ℕ)
    → slice_get (map (λ p. f p.0 p.1) (enumerate_from n xs)) k ≡ option_map (f (n + k)) (slice_get xs k)
get_enumerated f n [] k = refl
get_enumerated f n (x ∷ xs) zero = let e : n ≡ n + 0 = omega arith in ap (λ m. Some (f m x)) e
get_enumerated f n (x ∷ xs) (suc k) = let e : n + 1 + k ≡ n + suc k =
    omega arith in get_enumerated f (n + 1) xs k ∙ ap (λ m. option_map (f m) (slice_get xs k)) e

pub length_enumerated : {A B : Type 0} (f : ℕ × A → B) (n : ℕ) (xs : List A) → length (map f (enumerate_from n xs)) ≡ length xs
length_enumerated f n [] = refl
length_enumerated f n (x ∷ xs) = ap suc (length_enumerated f (n + 1) xs)

-- at first no number is granted, and each place of the list has its own number
pub all_blank : {A : Type 0} (x : A) (first count : ℕ) → map (λ _. x) (range_with_len first count) ≡ replicate count x
all_blank x first zero = refl
all_blank x first (suc count) = ap (λ xs. x ∷ xs) (all_blank x (first + 1) count)

pub range_more : (a n : ℕ) → range_with_len a (suc n) ≡ range_with_len a n ++ (a + n) ∷ []
range_more a zero = let same : a ≡ a + 0 = omega arith in ap (λ (k : ℕ). k ∷ []) same
range_more a (suc n) =
    let same : a + 1 + n ≡ a + suc n = omega arith in
    ap (λ (ks : List ℕ). a ∷ ks) (range_more (a + 1) n ∙ ap (λ (k : ℕ). range_with_len (a + 1) n ++ k ∷ []) same)

pub places_more : {X : Type 0} (f : ℕ → X) → (n : ℕ) → map f (range_with_len 0 (n + 1)) ≡ map f (range_with_len 0 n) ++ f n ∷ []
places_more f n = map-range_with_len_more f 0 n n (omega arith)
