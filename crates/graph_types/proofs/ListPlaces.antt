-- What stands at a place of a list: of a part of it, after a change, and in another list.
use Rattle.std.proofs.Common.{◌≡◌, ℕ, zero, suc, ◌+◌, ◌-◌, ◌<◌, ◌≤◌, ltb, ◌≢◌, List, [], ◌∷◌, ◌++◌, map, length, get_or, take}
use Rattle.std.proofs.Common.{drop, set, Some, Option, MatchOption, inl, inr, length-append, refl, sym, ap, ap₂, ◌∙◌, arith, Bool}
use Rattle.std.proofs.lemmas.{Bool.Decides.{eqb_tells, nat_tests}, Grind.common_steps}
use Rattle.std.proofs.lemmas.List.{map-set, length-map, get_or-map, get_or-set_same, get_or-set_other, drop_all, append-nil}
use Rattle.std.proofs.lemmas.List.{take_all, get_or-append-add, drop-set-add, take-set-le, drop-set-lt, length-drop}
use Rattle.std.proofs.lemmas.{List.{take_more_set, same_lists, get_or_default, drop-drop}, Option.slice_get_read}
use Rattle.std.specs.{FinMap.len, List.{insert, slice_get}, Prelude.{is_some, None, slice_set}}
use Rattle.std.specs.{Option.option_map, Prelude.if◌then◌else◌}
use Rattle.std.proofs.Common.{true, false, ◌||◌}

-- an item of the copied part
pub copied_at : {X : Type 0} (xs new rest : List X) (n k : ℕ) (d : X) → new ≡ take n xs → n ≤ length xs → k < n
    → get_or (new ++ rest) k d ≡ get_or xs k d
copied_at xs new rest n k d is few below = grind (arith, common_steps)

pub length-copied : {X : Type 0} (xs ys new : List X) (n : ℕ) → new ≡ take n xs → length xs ≡ 32 → length ys ≡ 32 → n ≤ 32
    → length (new ++ drop n ys) ≡ 32
length-copied xs ys new n is long long' few = grind (arith, common_steps)

pub map-insert : {X Y : Type 0} (f : X → Y) (xs : List X) (i : ℕ) (x : X) → map f (insert xs i x) ≡ insert (map f xs) i (f x)
map-insert f xs zero x = refl
map-insert f [] (suc i) x = refl
map-insert f (y ∷ xs) (suc i) x = ap (λ l. f y ∷ l) (map-insert f xs i x)

-- A part, or a shelf, of type P is told by a place of the hash, and tells what it has at a hash. One that was changed changes
-- the whole where its own hashes are.
module _ {X P : Type 0} (f : X → P) (none : P) (place_of : ℕ → ℕ) (found_in : P → ℕ → Option ℕ) where
  pub changed_part : (change : ℕ → Option ℕ → Option ℕ) (xs : List X) (place : ℕ) (y e : X) → place < length xs
      → ((q : ℕ) → found_in (f y) q ≡ change q (found_in (f (get_or xs place e)) q))
      → ((q : ℕ) (found : Option ℕ) → place_of q ≢ place → change q found ≡ found)
      → (q : ℕ) → found_in (get_or (map f (set xs place y)) (place_of q) none) q
      ≡ change q (found_in (get_or (map f xs) (place_of q) none) q)
  changed_part change xs place y e lt here elsewhere q =
      let shown : map f (set xs place y) ≡ set (map f xs) place (f y) = map-set f xs place y in
      let long : length (map f xs) ≡ length xs = length-map xs f in
      ap (λ (ps : List P). found_in (get_or ps (place_of q) none) q) shown
      ∙ elim (eqb_tells (place_of q) place) [
        | inl is ↦
            let there : get_or (map f xs) (place_of q) none ≡ f (get_or xs place e) =
            ap (λ n. get_or (map f xs) n none) is.1 ∙ get_or-map f xs place e none lt in
            ap (λ (p : P). found_in p q)
            (ap (λ n. get_or (set (map f xs) place (f y)) n none) is.1
            ∙ get_or-set_same (map f xs) place (f y) none (omega arith))
            ∙ here q ∙ ap (λ (p : P). change q (found_in p q)) (sym there)
        | inr other ↦
            ap (λ (p : P). found_in p q) (get_or-set_other (map f xs) place (place_of q) (f y) none other.1)
            ∙ sym (elsewhere q (found_in (get_or (map f xs) (place_of q) none) q) other.1)
      ]

last_some : {X : Type 0} (xs : List X) (i : ℕ) → suc i ≡ length xs → (x : X)
    × ((slice_get xs i ≡ Some x) × ((others : List X) × (xs ≡ others ++ x ∷ [])))
last_some (x ∷ []) zero last = (x, (refl, ([], refl)))
last_some (x ∷ y ∷ xs) (suc i) last =
    let rest = last_some (y ∷ xs) i (omega arith) in
    (rest.0, (rest.1.0, (x ∷ rest.1.1.0, ap (λ l. x ∷ l) rest.1.1.1)))
last_some _ i last = absurd (omega arith)

-- what a look at the last place finds: the last element, behind the others
pub last_of : {X : Type 0} (xs : List X) (i : ℕ) (result : Option X) → result ≡ slice_get xs i → suc i ≡ length xs
    → MatchOption result (xs ≡ []) (λ x. (others : List X) × (xs ≡ others ++ x ∷ []))
last_of xs i result at last = let found = last_some xs i last in rw (at ∙ found.1.0) found.1.1

pub map_take : {A B : Type 0} (f : A → B) (n : ℕ) (xs : List A) → map f (take n xs) ≡ take n (map f xs)
map_take f zero xs = refl
map_take f (suc n) [] = refl
map_take f (suc n) (x ∷ xs) = ap (λ ys. f x ∷ ys) (map_take f n xs)

pub map_drop : {A B : Type 0} (f : A → B) (n : ℕ) (xs : List A) → map f (drop n xs) ≡ drop n (map f xs)
map_drop f zero xs = refl
map_drop f (suc n) [] = refl
map_drop f (suc n) (x ∷ xs) = map_drop f n xs

pub take_front : {A : Type 0} (xs ys : List A) → take (length xs) (xs ++ ys) ≡ xs
take_front [] ys = refl
take_front (x ∷ xs) ys = ap (λ zs. x ∷ zs) (take_front xs ys)

pub drop_front : {A : Type 0} (xs ys : List A) → drop (length xs) (xs ++ ys) ≡ ys
drop_front [] ys = refl
drop_front (x ∷ xs) ys = drop_front xs ys

pub at_drop : {A : Type 0} (xs : List A) (k : ℕ) (d : A) → get_or (drop k xs) 0 d ≡ get_or xs k d
at_drop [] zero d = refl
at_drop [] (suc k) d = refl
at_drop (x ∷ xs) zero d = refl
at_drop (x ∷ xs) (suc k) d = at_drop xs k d

pub length_dropped : {A : Type 0} (n : ℕ) (xs : List A) → length (drop n xs) ≡ length xs - n
length_dropped zero xs = omega arith
length_dropped (suc n) [] = omega arith
length_dropped (suc n) (x ∷ xs) = length_dropped n xs ∙ omega arith

pub same_by_place : {A B C : Type 0} (f : B → C) (g : A → B) (xs ys : List A) → length xs ≡ length ys
    → ((j : ℕ) (d : A) → j < length xs → f (g (get_or xs j d)) ≡ f (g (get_or ys j d))) → map f (map g xs) ≡ map f (map g ys)
same_by_place f g [] [] long each = refl
same_by_place f g [] (y ∷ ys) long each = absurd (omega arith)
same_by_place f g (x ∷ xs) [] long each = absurd (omega arith)
same_by_place f g (x ∷ xs) (y ∷ ys) long each =
    ap₂ (λ z zs. z ∷ zs) (each 0 x (omega arith))
    (same_by_place f g xs ys (omega arith) (λ j d lt. each (suc j) d (omega arith)))

-- a list written over, whole
pub written : {A : Type 0} (old new : List A) (len : ℕ) → len ≡ length old → length new ≡ length old
    → take len (new ++ drop (length new) old) ≡ new
written old new len is long = grind (arith, common_steps, drop_all, append-nil, take_all)

-- where the sources asked for are, in one list after those of the old rows
pub ranked_next : (own more xs places : List ℕ) → length places ≡ length (own ++ more)
    → ((k : ℕ) → k < length (own ++ more) → slice_get xs (get_or places k 0) ≡ Some (get_or (own ++ more) k 0))
    → (length places ≡ length own + length more)
    × ((k : ℕ) → k < length more → slice_get xs (get_or places (length own + k) 0) ≡ Some (get_or more k 0))
ranked_next own more xs places long placed =
    let both : length (own ++ more) ≡ length own + length more = length-append own more in (
      long ∙ both,
      λ k lt. placed (length own + k) (omega (arith, both, lt)) ∙ ap (λ n. Some n) (get_or-append-add own more k 0),
    )

-- a write past a part, before it, and right after it
pub slice_later : (ends : List ℕ) (s k p x : ℕ) → s + k ≤ p → take k (drop s (set ends p x)) ≡ take k (drop s ends)
slice_later ends s k p x le =
    let j = p - s in
    let is : p ≡ s + j = omega arith in
    ap (λ y. take k (drop s (set ends y x))) is ∙ ap (take k) (drop-set-add s ends j x)
    ∙ take-set-le k (drop s ends) j x (omega arith)

pub slice_earlier : (ends : List ℕ) (s k p x : ℕ) → p < s → take k (drop s (set ends p x)) ≡ take k (drop s ends)
slice_earlier ends s k p x lt = ap (take k) (drop-set-lt s ends p x lt)

pub slice_next : (ends : List ℕ) (s k x : ℕ) → s + k < length ends
    → take (k + 1) (drop s (set ends (s + k) x)) ≡ take k (drop s ends) ++ x ∷ []
slice_next ends s k x lt =
    let long = length-drop s ends in
    ap (take (k + 1)) (drop-set-add s ends k x) ∙ take_more_set (drop s ends) k x (omega arith)

pub get_before : {A : Type 0} (xs ys : List A) (n : ℕ) → n < length xs → slice_get (xs ++ ys) n ≡ slice_get xs n
get_before [] ys n h = absurd (omega arith)
get_before (x ∷ xs) ys zero h = refl
get_before (x ∷ xs) ys (suc n) h = get_before xs ys n (omega arith)

pub get_last : {A : Type 0} (xs : List A) (x : A) → slice_get (xs ++ x ∷ []) (length xs) ≡ Some x
get_last [] x = refl
get_last (y ∷ ys) x = get_last ys x

shifted : (i n : ℕ) → ltb i n ≡ ltb (suc i) (suc n)
shifted i n = grind (arith, nat_tests)

pub some_within : {A : Type 0} (xs : List A) (i : ℕ) → is_some (slice_get xs i) ≡ ltb i (length xs)
some_within [] i = grind (arith, nat_tests)
some_within (x ∷ xs) zero = grind (arith, nat_tests)
some_within (x ∷ xs) (suc i) = some_within xs i ∙ shifted i (length xs)

pub set_same : {A : Type 0} (xs : List A) (i : ℕ) (x y : A) → slice_get xs i ≡ Some x → slice_get (set xs i y) i ≡ Some y
set_same [] i x y is = cc
set_same (z ∷ zs) zero x y is = refl
set_same (z ∷ zs) (suc i) x y is = set_same zs i x y is

pub set_else : {A : Type 0} (xs : List A) (i k : ℕ) (y : A) → k ≢ i → slice_get (set xs i y) k ≡ slice_get xs k
set_else [] i k y ne = refl
set_else (z ∷ zs) zero zero y ne = absurd (ne refl)
set_else (z ∷ zs) zero (suc k) y ne = refl
set_else (z ∷ zs) (suc i) zero y ne = refl
set_else (z ∷ zs) (suc i) (suc k) y ne = set_else zs i k y (λ e. ne (ap suc e))

-- what each page has room for
pub room_in : {A : Type 0} (pages : List (List A)) (q : ℕ) → get_or (map length pages) q 0 ≡ length (get_or pages q [])
room_in pages q = Rattle.std.proofs.Math.ListN.get_or-map length pages q []

pub no_number : (ns : List ℕ) → length ns ≤ 0 → ns ≡ []
no_number h0 le = grind (arith, common_steps)

-- lists of one length with the same at each place are the same
pub same_elements : {A : Type 0} (xs ys : List (Option A)) → length xs ≡ length ys
    → ((s : ℕ) → get_or xs s None ≡ get_or ys s None) → xs ≡ ys
same_elements xs ys long same = same_lists xs ys long
    (λ k d h. get_or_default xs k d None h ∙ same k ∙ get_or_default ys k None d (omega (arith, h, long)))

-- lists with the same at each place are the same
pub same_list : {A : Type 0} (xs ys : List A) → ((n : ℕ) → slice_get xs n ≡ slice_get ys n) → xs ≡ ys
same_list [] [] same = refl
same_list [] (y ∷ ys) same = let no = same 0 in cc
same_list (x ∷ xs) [] same = let no = same 0 in cc
same_list (x ∷ xs) (y ∷ ys) same =
    let heads : Some x ≡ Some y = same 0 in
    let rest : xs ≡ ys = same_list xs ys (λ n. same (suc n)) in
    cc

pub set_again : {A : Type 0} (xs : List A) (i : ℕ) (x : A) → slice_get xs i ≡ Some x → set xs i x ≡ xs
set_again [] i x is = cc
set_again (y ∷ ys) zero x is = let same : y ≡ x = cc in ap (λ z. z ∷ ys) (sym same)
set_again (y ∷ ys) (suc i) x is = ap (λ zs. y ∷ zs) (set_again ys i x is)

-- a place set twice
pub set_twice : {X : Type 0} (xs : List X) (i : ℕ) (x y : X) → slice_set (slice_set xs i x) i y ≡ slice_set xs i y
set_twice [] i x y = refl
set_twice (z ∷ zs) zero x y = refl
set_twice (z ∷ zs) (suc i) x y = ap (λ ws. z ∷ ws) (set_twice zs i x y)

-- what is taken out of a place is what stands there
pub read_some : {X : Type 0} (xs : List (Option X)) (i : ℕ) (read taken : Option X) (x : X) → i < length xs
    → read ≡ get_or xs i read → taken ≡ read → taken ≡ Some x → slice_get xs i ≡ Some (Some x)
read_some xs i read taken x below is same some =
    slice_get_read xs (length xs) i read refl below is ∙ ap (λ o. Some o) (sym same ∙ some)

pub seated : {A : Type 0} (xs : List (Option A)) (i : ℕ) (x : A) → slice_get xs i ≡ Some (Some x) → i < length xs
seated [] i x is = cc
seated (y ∷ ys) zero x is = omega arith
seated (y ∷ ys) (suc i) x is = let low = seated ys i x is in omega arith

-- what is the same from a place on is so from a later one on
pub drop_later : (xs ys : List ℕ) (at n : ℕ) → drop at xs ≡ drop at ys → drop (at + n) xs ≡ drop (at + n) ys
drop_later xs ys at n same = sym (drop-drop n at xs) ∙ ap (drop n) same ∙ drop-drop n at ys

abbrev pub changed_if : {A : Type 0} → (A → A) → Bool → Option A → Option A
changed_if f b o = if b then option_map f o else o

pub changed_twice : {A : Type 0} (a b : Bool) (x : A) (o : Option A) → changed_if (λ _. x) b (changed_if (λ _. x) a o)
    ≡ changed_if (λ _. x) (a || b) o
changed_twice a b x o = grind (arith, common_steps)

pub changed_once : {A : Type 0} (f : A → A) (a b : Bool) (o : Option A) → (a ≡ true → b ≡ false)
    → changed_if f b (changed_if f a o) ≡ changed_if f (a || b) o
changed_once f a b o apart = grind (arith, common_steps)
