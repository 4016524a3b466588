-- The items at the places in a mask, one place more at a time.
use Rattle.std.proofs.Common.{◌≡◌, ℕ, suc, ◌+◌, ◌<◌, ◌≤◌, Bool, true, false, List, [], ◌∷◌, ◌++◌, length, get_or, take, refl, ap}
use Rattle.std.proofs.Common.{arith, min, max, zero, inl, inr, set, ◌≢◌, ◌∙◌}
use Rattle.std.proofs.lemmas.{Bool.eq-eqb, Bool.ne_eqb, Bool.cases_lt, List.take_more, List.length-take}
use Rattle.std.proofs.lemmas.List.Elements.{All-push, Contains-push, Contains-append_left, All-contains, All-weaker}
use Rattle.std.specs.{Prelude.if◌then◌else◌, Prelude.All, Prelude.Contains, declared.option.Option.TheVariants.Some, Int.bit_at}
use Rattle.std.specs.Prelude.{slice_index}
use Rattle.std.proofs.lemmas.{Bool.cases_eq, Nat.Bits.bit_at-zero}
use Rattle.lane_scan.specs.Masks.{InMask, selected_from, selected, AreBoundsOf, IsLeastOf, IsGreatestOf}

-- a list that may begin with y, with x at its end
push_after : {X : Type 0} (b : Bool) (y x : X) (xs ys : List X) → xs ≡ ys ++ x ∷ [] →
    (if b then y ∷ xs else xs) ≡ (if b then y ∷ ys else ys) ++ x ∷ []
push_after true y x xs ys e = ap (λ zs. y ∷ zs) e
push_after false y x xs ys e = e

pub same_after : {X : Type 0} (b : Bool) (y : X) (xs ys : List X) → xs ≡ ys →
    (if b then y ∷ xs else xs) ≡ (if b then y ∷ ys else ys)
same_after true y xs ys e = ap (λ zs. y ∷ zs) e
same_after false y xs ys e = e

-- one more item at the end, at a place in the mask
pub selected_from_push : {X : Type 0} (mask place : ℕ) (xs : List X) (x : X) (n : ℕ) → place + length xs ≡ n → InMask mask n →
    selected_from mask place (xs ++ x ∷ []) ≡ selected_from mask place xs ++ x ∷ []
selected_from_push mask place [] x n e set =
    let here : place ≡ n = omega arith in
    rw here (rw (eq-eqb (bit_at mask n) 1 set))
selected_from_push mask place (y ∷ xs) x n e set =
    push_after _ y x _ _ (selected_from_push mask (place + 1) xs x n (omega arith) set)

-- one more item at the end, at a place outside of the mask
pub selected_from_pass : {X : Type 0} (mask place : ℕ) (xs : List X) (x : X) (n : ℕ) → place + length xs ≡ n → (InMask mask n → ⊥)
    →
    selected_from mask place (xs ++ x ∷ []) ≡ selected_from mask place xs
selected_from_pass mask place [] x n e clear =
    let here : place ≡ n = omega arith in
    rw here (rw (ne_eqb (bit_at mask n) 1 clear))
selected_from_pass mask place (y ∷ xs) x n e clear =
    same_after _ y _ _ (selected_from_pass mask (place + 1) xs x n (omega arith) clear)

-- the first i + 1 items, by the first i
pub selected_more_in : {X : Type 0} (mask : ℕ) (xs : List X) (i : ℕ) (d : X) → i < length xs → InMask mask i →
    selected mask (take (i + 1) xs) ≡ selected mask (take i xs) ++ get_or xs i d ∷ []
selected_more_in mask xs i d within set =
    rw (take_more xs i d within) (selected_from_push mask 0 (take i xs) (get_or xs i d) i (omega (arith, length-take i xs)) set)

pub selected_more_out : {X : Type 0} (mask : ℕ) (xs : List X) (i : ℕ) → i < length xs → (InMask mask i → ⊥) →
    selected mask (take (i + 1) xs) ≡ selected mask (take i xs)
selected_more_out mask [] i within clear = absurd (omega arith)
selected_more_out mask (x ∷ xs) i within clear =
    rw (take_more (x ∷ xs) i x within) (selected_from_pass mask 0 (take i (x ∷ xs)) (get_or (x ∷ xs) i x) i
    (omega (arith, length-take i (x ∷ xs))) clear)

contains_after : {X : Type 0} (b : Bool) (y : X) (xs : List X) (x : X) → Contains xs x → Contains (if b then y ∷ xs else xs) x
contains_after true y xs x (k, within, is) = (suc k, omega arith, is)
contains_after false y xs x there = there

-- the item at a place in the mask is selected
pub selected_from_contains : {X : Type 0} (mask place : ℕ) (xs : List X) (i : ℕ) (d : X) (n : ℕ) → i < length xs → place + i ≡ n
    → InMask mask n →
    Contains (selected_from mask place xs) (get_or xs i d)
selected_from_contains mask place [] i d n within e set = absurd (omega arith)
selected_from_contains mask place (x ∷ xs) zero d n within e set =
    let here : place ≡ n = omega arith in
    rw here (rw (eq-eqb (bit_at mask n) 1 set) (0, omega arith, refl))
selected_from_contains mask place (x ∷ xs) (suc i) d n within e set =
    contains_after _ x _ _ (selected_from_contains mask (place + 1) xs i d n (omega arith) (omega arith) set)

-- a fact of all selected items, at a place in the mask
pub All-selected_at : {X : Type 0} (P : X → Type 0) (mask : ℕ) (xs : List X) (i : ℕ) (d : X) → All P (selected mask xs)
    → i < length xs → InMask mask i →
    P (get_or xs i d)
All-selected_at P mask xs i d all within set =
    All-contains P (selected mask xs) (get_or xs i d) all (selected_from_contains mask 0 xs i d i within (omega arith) set)

-- the least value and the greatest, with one more value
least_stays : (values : List ℕ) (time least : ℕ) → IsLeastOf values least → least ≤ time → IsLeastOf (values ++ time ∷ []) least
least_stays values time least h le = record {
  reached = Contains-append_left values (time ∷ []) least h.reached;
  bound = All-push (λ value. least ≤ value) values time h.bound le;
}

least_falls : (values : List ℕ) (time least : ℕ) → IsLeastOf values least → time ≤ least → IsLeastOf (values ++ time ∷ []) time
least_falls values time least h le = record {
  reached = Contains-push values time;
  bound = All-push (λ value. time ≤ value) values time
      (All-weaker (λ value. least ≤ value) (λ value. time ≤ value) (λ value above. omega arith) values h.bound) (omega arith);
}

greatest_stays : (values : List ℕ) (time greatest : ℕ) → IsGreatestOf values greatest → time ≤ greatest
    → IsGreatestOf (values ++ time ∷ []) greatest
greatest_stays values time greatest h le = record {
  reached = Contains-append_left values (time ∷ []) greatest h.reached;
  bound = All-push (λ value. value ≤ greatest) values time h.bound le;
}

greatest_rises : (values : List ℕ) (time greatest : ℕ) → IsGreatestOf values greatest → greatest ≤ time
    → IsGreatestOf (values ++ time ∷ []) time
greatest_rises values time greatest h le = record {
  reached = Contains-push values time;
  bound = All-push (λ value. value ≤ time) values time
      (All-weaker (λ value. value ≤ greatest) (λ value. value ≤ time) (λ value below. omega arith) values h.bound) (omega arith);
}

least_push : (values : List ℕ) (time least : ℕ) → IsLeastOf values least → IsLeastOf (values ++ time ∷ []) (min least time)
least_push values time least h =
    elim (cases_lt time least) [
      | inl lt ↦ (let e : min least time ≡ time = omega arith in rw e (least_falls values time least h (omega arith)))
      | inr le ↦ (let e : min least time ≡ least = omega arith in rw e (least_stays values time least h le))
    ]

greatest_push : (values : List ℕ) (time greatest : ℕ) → IsGreatestOf values greatest
    → IsGreatestOf (values ++ time ∷ []) (max greatest time)
greatest_push values time greatest h =
    elim (cases_lt greatest time) [
      | inl lt ↦ (let e : max greatest time ≡ time = omega arith in rw e (greatest_rises values time greatest h (omega arith)))
      | inr le ↦ (let e : max greatest time ≡ greatest = omega arith in rw e (greatest_stays values time greatest h le))
    ]

-- the bounds with one more value
pub bounds_push : (values : List ℕ) (time least greatest m n : ℕ) → m ≡ min least time → n ≡ max greatest time
    → AreBoundsOf values (Some (least, greatest)) →
    AreBoundsOf (values ++ time ∷ []) (Some (m, n))
bounds_push values time least greatest m n e f h =
    rw (e, f) (least_push values time least h.0, greatest_push values time greatest h.1)

-- what is selected stands at a place in the mask, and the other way round
pub has_later : (mask : ℕ) (xs : List ℕ) (time x place n : ℕ)
    → (k : ℕ) × (k < length xs) × InMask mask (n + 1 + k) × (slice_index xs k ≡ time) →
    (k : ℕ) × (k < length (x ∷ xs)) × InMask mask (n + k) × (slice_index (x ∷ xs) k ≡ time)
has_later mask xs time x place n (k, within, lives, is) =
    let same : n + 1 + k ≡ n + suc k = omega arith in
    (suc k, omega arith, rw same at lives, is)

-- an empty mask selects nothing
pub selected_none : {X : Type 0} (place : ℕ) (xs : List X) → selected_from 0 place xs ≡ []
selected_none place [] = refl
selected_none place (x ∷ xs) =
    let clear : bit_at 0 place ≡ 1 → ⊥ = λ set. omega (arith, bit_at-zero place) in
    rw (ne_eqb (bit_at 0 place) 1 clear) (selected_none (place + 1) xs)

-- no other place
pub bounds_alone : (rs : List ℕ) (others : ℕ) → others ≡ 0 → selected others rs ≡ []
bounds_alone rs others none = rw none (selected_none 0 rs)

-- columns that agree at the live places
pub selected_agree : {X : Type 0} (mask n : ℕ) (xs ys : List X) (d : X) → length xs ≡ length ys
    → ((k m : ℕ) → k < length xs → n + k ≡ m → InMask mask m → get_or xs k d ≡ get_or ys k d) →
    selected_from mask n xs ≡ selected_from mask n ys
selected_agree mask n [] [] d long same = refl
selected_agree mask n (x ∷ xs) (y ∷ ys) d long same =
    let rest : selected_from mask (n + 1) xs ≡ selected_from mask (n + 1) ys =
    selected_agree mask (n + 1) xs ys d (omega arith) (λ k m within e set. same (suc k) m (omega arith) (omega arith) set) in
    elim (cases_eq (bit_at mask n) 1) [
      | inl set ↦ (let here : x ≡ y = same 0 n (omega arith) (omega arith) set in rw (eq-eqb (bit_at mask n) 1 set, here, rest))
      | inr clear ↦ rw (ne_eqb (bit_at mask n) 1 clear, rest)
    ]
selected_agree mask n _ _ d long same = absurd (omega arith)

-- masks that agree select the same
selected_same : {X : Type 0} (mask mask' place : ℕ) (xs : List X)
    → ((k n : ℕ) → k < length xs → place + k ≡ n → bit_at mask n ≡ bit_at mask' n) →
    selected_from mask place xs ≡ selected_from mask' place xs
selected_same mask mask' place [] same = refl
selected_same mask mask' place (x ∷ xs) same =
    let here : bit_at mask place ≡ bit_at mask' place = same 0 place (omega arith) (omega arith) in
    let rest : selected_from mask (place + 1) xs ≡ selected_from mask' (place + 1) xs =
    selected_same mask mask' (place + 1) xs (λ k n within e. same (suc k) n (omega arith) (omega arith)) in
    rw (here, rest)

-- the first selected item, and what a mask without its place selects
pub selected_next : {X : Type 0} (mask mask' place : ℕ) (xs : List X) (i n : ℕ) (d : X) → i < length xs → place + i ≡ n
    → InMask mask n →
    ((m : ℕ) → m < n → InMask mask m → ⊥) → (InMask mask' n → ⊥)
    → ((k m : ℕ) → k < length xs → place + k ≡ m → m ≢ n → bit_at mask m ≡ bit_at mask' m) →
    selected_from mask place xs ≡ get_or xs i d ∷ selected_from mask' place xs
selected_next mask mask' place [] i n d within e set first clear others = absurd (omega arith)
selected_next mask mask' place (x ∷ xs) zero n d within e set first clear others =
    let here : place ≡ n = omega arith in
    rw (here, eq-eqb (bit_at mask n) 1 set, ne_eqb (bit_at mask' n) 1 clear)
    (ap (λ ys. x ∷ ys) (selected_same mask mask' (n + 1) xs
    (λ k m at f. others (suc k) m (omega arith) (omega arith) (omega arith))))
selected_next mask mask' place (x ∷ xs) (suc i) n d within e set first clear others =
    let before : bit_at mask place ≡ 1 → ⊥ = first place (omega arith) in
    let same : bit_at mask place ≡ bit_at mask' place = others 0 place (omega arith) (omega arith) (omega arith) in
    let before' : bit_at mask' place ≡ 1 → ⊥ = λ set'. before (same ∙ set') in
    rw (ne_eqb (bit_at mask place) 1 before, ne_eqb (bit_at mask' place) 1 before')
    (selected_next mask mask' (place + 1) xs i n d (omega arith) (omega arith) set first clear
    (λ k m at f ne. others (suc k) m (omega arith) (omega arith) ne))
