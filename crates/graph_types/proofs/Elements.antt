-- What holds of all elements of a list, of all pairs, and of two lists side by side.
use Rattle.std.proofs.Common.{◌≡◌, ℕ, zero, suc, ◌+◌, ◌<◌, ◌≤◌, Bool, cond, ◌≢◌, ◌⊎◌, List, [], ◌∷◌, ◌++◌, length, get_or, take}
use Rattle.std.proofs.Common.{drop, replicate, All, AllPairs, inl, inr, length-append, sym, ap, subst, arith}
use Rattle.std.proofs.lemmas.{Bool.{ltb-true, ltb-false}, Grind.common_steps}
use Rattle.std.proofs.lemmas.List.{take_more, take-append-drop, get_or_append_left}
use Rattle.std.proofs.lemmas.List.Elements.{All-push, All-weaker, All-nil, All-cons, Contains-append_left, Contains-append_right}
use Rattle.std.proofs.lemmas.List.Elements.{Contains-append_cases, All-head, All-tail, Contains-get_or, All-contains}
use Rattle.std.proofs.lemmas.List.Elements.{Contains-push_cases, Contains-push}
use Rattle.std.specs.{Array.AllZipBelow, List.{AllZip, Contains, range_with_len}, Prelude.{flat_map, ◌↔◌, IfSome, slice_get}}
use Rattle.graph_types.proofs.Counts.{Contains-nil, Contains-cons_cases, Contains-first, Contains-cons}

-- one more piece, and a bound that is no greater than those before and its own
pub bounded_more : {X : Type 0} (P : ℕ → X → Type 0) → ((s t : ℕ) (x : X) → s ≤ t → P t x → P s x) → (s t u : ℕ) (xs : List X)
    (k : ℕ) (x : X) → k < length xs → s ≤ t → s ≤ u → All (P t) (take k xs) → P u (get_or xs k x) → All (P s) (take (k + 1) xs)
bounded_more P earlier s t u xs k x lt le le' all one =
    subst (All (P s)) (sym (take_more xs k x lt))
    (All-push (P s) (take k xs) (get_or xs k x) (All-weaker (P t) (P s) (λ y p. earlier s t y le p) (take k xs) all)
    (earlier s u (get_or xs k x) le' one))

zipped_made : {A B : Type 0} (R : A → B → Type 0) (P : B → Type 0) (a : A) (n : ℕ) (ys : List B)
    → AllZip R (replicate n a) ys → ((y : B) → R a y → P y) → All P ys
zipped_made R P a zero [] zipped passes = All-nil P
zipped_made R P a (suc n) (y ∷ ys) zipped passes = All-cons P y ys (passes y zipped.0) (zipped_made R P a n ys zipped.1 passes)
zipped_made R P a _ _ zipped passes = absurd zipped

-- what holds of all that an answer for the one thing can be, holds of each of them
pub each_made : {A B : Type 0} {R : A → B → Type 0} (a : A) (n : ℕ) (ys : List B) → AllZipBelow R (replicate n a) ys n
    → (P : B → Type 0) → ((y : B) → R a y → P y) → All P ys
each_made {R = R} a n ys zipped P passes = zipped_made R P a n ys zipped.whole passes

module _ {X A : Type 0} (h : X → List A) where
  pub contains_flat : (xs : List X) (x : X) (y : A) → Contains xs x → Contains (h x) y → Contains (flat_map h xs) y
  contains_flat [] x y c d = absurd (Contains-nil x c)
  contains_flat (z ∷ zs) x y c d = elim (Contains-cons_cases z zs x c) [
    | inl same ↦ Contains-append_left (h z) (flat_map h zs) y (subst (λ w. Contains (h w) y) (sym same) d)
    | inr more ↦ Contains-append_right (h z) (flat_map h zs) y (contains_flat zs x y more d)
  ]

  pub flat_contains : (xs : List X) (y : A) → Contains (flat_map h xs) y → (x : X) × Contains xs x × Contains (h x) y
  flat_contains [] y c = absurd (Contains-nil y c)
  flat_contains (z ∷ zs) y c = elim (Contains-append_cases (h z) (flat_map h zs) y c) [
    | inl here ↦ (z, Contains-first z zs z (λ i. z), here)
    | inr there ↦ let r = flat_contains zs y there in (r.0, Contains-cons z zs r.0 r.1, r.2)
  ]

-- the parts of a list whose elements all have something
pub all_left : {A : Type 0} (P : A → Type 0) (xs ys : List A) → All P (xs ++ ys) → All P xs
all_left P [] ys all = All-nil P
all_left P (x ∷ xs) ys all = All-cons P x xs (All-head P x (xs ++ ys) all) (all_left P xs ys (All-tail P x (xs ++ ys) all))

pub all_right : {A : Type 0} (P : A → Type 0) (xs ys : List A) → All P (xs ++ ys) → All P ys
all_right P [] ys all = all
all_right P (x ∷ xs) ys all = all_right P xs ys (All-tail P x (xs ++ ys) all)

-- two places of distinct numbers
pub apart : (xs : List ℕ) (i j d : ℕ) → AllPairs (λ a b. a ≢ b) xs → i < length xs → j < length xs → (i ≡ j → ⊥)
    → get_or xs i d ≡ get_or xs j d → ⊥
apart xs i j d distinct a b n e = grind (arith, common_steps, ltb-true, ltb-false)

pub last_of : {A : Type 0} (P : A → Type 0) (xs : List A) (x : A) → All P (xs ++ x ∷ []) → P x
last_of P [] x all = All-head P x [] all
last_of P (y ∷ xs) x all = last_of P xs x (All-tail P y (xs ++ x ∷ []) all)

zip_both : {A B : Type 0} (R : A → B → Type 0) (xs xs' : List A) (ys ys' : List B) → AllZip R xs ys → AllZip R xs' ys'
    → AllZip R (xs ++ xs') (ys ++ ys')
zip_both R [] xs' [] ys' a b = b
zip_both R [] xs' (y ∷ ys) ys' a b = absurd a
zip_both R (x ∷ xs) xs' [] ys' a b = absurd a
zip_both R (x ∷ xs) xs' (y ∷ ys) ys' a b = (a.0, zip_both R xs xs' ys ys' a.1 b)

pub zip_more : {A B : Type 0} (R : A → B → Type 0) (xs : List A) (ys : List B) (x : A) (y : B) → AllZip R xs ys → R x y
    → AllZip R (xs ++ x ∷ []) (ys ++ y ∷ [])
zip_more R xs ys x y all one = zip_both R xs (x ∷ []) ys (y ∷ []) all (one, tt)

-- the results of the two parts of a list, one behind the other, are results of the list
pub zip_halves : {A B : Type 0} (R : A → B → Type 0) (m : ℕ) (xs low high : List A) (rs ss all : List B)
    → low ≡ take m xs → high ≡ drop m xs → all ≡ rs ++ ss → AllZip R low rs → AllZip R high ss → AllZip R xs all
zip_halves R m xs low high rs ss all a b e p q = grind (arith, common_steps, take-append-drop, zip_both)

pub bounded : (n m : ℕ) (xs : List ℕ) → n ≤ m → All (λ x. x < n) xs → All (λ x. x < m) xs
bounded n m xs le within i d lt = let w = within i d lt in omega (arith, le, w)

one_more : {A : Type 0} (R : ℕ → A → Type 0) (first n : ℕ) (xs : List A) (x : A) → AllZip R (range_with_len first n) xs
    → R (first + n) x → AllZip R (range_with_len first (suc n)) (xs ++ x ∷ [])
one_more R first zero [] x so_far is = (subst (λ m. R m x) (omega arith) is, tt)
one_more R first zero (y ∷ xs) x so_far is = absurd so_far
one_more R first (suc n) [] x so_far is = absurd so_far
one_more R first (suc n) (y ∷ xs) x so_far is =
    (so_far.0, one_more R (first + 1) n xs x so_far.1 (subst (λ m. R m x) (omega arith) is))

-- one more worker's shard
pub one_more_shard : {A : Type 0} (R : ℕ → A → Type 0) (n : ℕ) (xs : List A) (x : A) → AllZip R (range_with_len 0 n) xs → R n x
    → AllZip R (range_with_len 0 (n + 1)) (xs ++ x ∷ [])
one_more_shard R n xs x so_far is = grind (arith, common_steps, one_more)

pub pairs_cons : (x : ℕ) (xs : List ℕ) → All (λ y. x ≢ y) xs → AllPairs (λ a b. a ≢ b) xs → AllPairs (λ a b. a ≢ b) (x ∷ xs)
pairs_cons x xs first rest is holds d lt within = grind (arith, common_steps)

pub pairs_head : (x : ℕ) (xs : List ℕ) → AllPairs (λ a b. a ≢ b) (x ∷ xs) → All (λ y. x ≢ y) xs
pairs_head x xs pairs j d lt = pairs 0 (suc j) d (omega arith) (omega arith)

pub told : (P : ℕ → Type 0) (xs ys : List ℕ) → xs ≡ ys → ((b : ℕ) → Contains ys b ↔ P b) → All P xs
told P xs ys e h k d lt = (h (get_or xs k d)).0 (subst (λ zs. Contains zs (get_or xs k d)) e (Contains-get_or xs k d lt))

pub each_target : (P Q : ℕ → Type 0) (xs ys : List ℕ) → xs ≡ ys → ((b : ℕ) → Contains ys b ↔ P b) → All Q xs → (b : ℕ) → P b → Q b
each_target P Q xs ys e h all b p = All-contains Q xs b all (subst (λ zs. Contains zs b) (sym e) ((h b).1 p))

-- one more pair
pub added : (xs : List (ℕ × ℕ)) (a b v w : ℕ) → Contains (xs ++ (a, b) ∷ []) (v, w) ↔ (Contains xs (v, w) ⊎ ((v ≡ a) × (w ≡ b)))
added xs a b v w = (
  (λ c. elim (Contains-push_cases xs (a, b) (v, w) c) [
    | inl x ↦ inl x
    | inr e ↦ inr (ap (λ (p : ℕ × ℕ). p.0) (sym e), ap (λ (p : ℕ × ℕ). p.1) (sym e))
  ]),
  (λ c. elim c [
    | inl x ↦ Contains-append_left xs ((a, b) ∷ []) (v, w) x
    | inr e ↦
        let p = sym e.0 in
        let q = sym e.1 in
        let same : ◌≡◌ {A = ℕ × ℕ} (a, b) (v, w) = λ i. (p i, q i) in
        subst (Contains (xs ++ (a, b) ∷ [])) same (Contains-push xs (a, b))
  ]),
)

pub pushed_keeps : (b : Bool) (st : List ℕ) (w x : ℕ) → Contains st x → Contains (cond b (st ++ w ∷ []) st) x
pushed_keeps b st w x c = grind (arith, common_steps, Contains-append_left)

pub pushed_all : (P : ℕ → Type 0) (b : Bool) (st : List ℕ) (w : ℕ) → P w → All P st → All P (cond b (st ++ w ∷ []) st)
pushed_all P b st w p all = grind (arith, common_steps, All-push)

module _ {X : Type 0} where
  pub AllPairs-left : (R : X → X → Type 0) (xs ys : List X) → AllPairs R (xs ++ ys) → AllPairs R xs
  AllPairs-left R xs ys all i j d low high =
      subst (λ y. R (get_or xs i d) y) (get_or_append_left xs ys d j (omega arith))
      (subst (λ x. R x (get_or (xs ++ ys) j d)) (get_or_append_left xs ys d i (omega arith))
      (all i j d (omega arith) (omega (arith, length-append xs ys))))

pub front_low : (xs : List ℕ) (x : ℕ) (P : ℕ → Type 0) → All P (xs ++ x ∷ []) → All P xs
front_low xs x P all = λ m d l.
    let long = length-append xs (x ∷ []) in
    subst P (get_or_append_left xs (x ∷ []) d m l) (all m d (omega arith))

-- the popped vertex is one of n
pub popped_within : (n v : ℕ) (old st : List ℕ) → old ≡ st ++ v ∷ [] → All (λ w. w < n) old → v < n
popped_within n v old st popped all = All-contains (λ w. w < n) (st ++ v ∷ []) v (subst (All (λ w. w < n)) popped all)
    (Contains-push st v)

pub differ_head : (b : ℕ) (bs : List ℕ) → AllPairs ◌≢◌ (b ∷ bs) → All (λ c. b ≢ c) bs
differ_head b bs all = λ k d h. all 0 (suc k) d (omega arith) (omega arith)

pub apart_head : (n : ℕ) (ns : List ℕ) → AllPairs ◌≢◌ (n ∷ ns) → (k : ℕ) → k < length ns → n ≢ get_or ns k 0
apart_head n ns apart k h = apart 0 (suc k) 0 (omega arith) (omega arith)

pub pushed : {X : Type 0} (P : ℕ → X → Type 0) (list : List X) (x : X)
    → ((place : ℕ) → IfSome (slice_get list place) (P place)) → P (length list) x
    → (place : ℕ) → IfSome (slice_get (list ++ x ∷ []) place) (P place)
pushed P [] x so is zero = is
pushed P [] x so is (suc place) = tt
pushed P (y ∷ ys) x so is zero = so zero
pushed P (y ∷ ys) x so is (suc place) = pushed (λ n. P (suc n)) ys x (λ n. so (suc n)) is place
