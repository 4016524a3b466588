-- Sums and counts over lists: one element more, in parts, and by another function.
use Rattle.std.proofs.Common.{◌≡◌, ℕ, zero, suc, ◌+◌, ◌<◌, ◌≤◌, Bool, true, false, cond, not, ◌&&◌, ◌≢◌, List, [], ◌∷◌, ◌++◌, map}
use Rattle.std.proofs.Common.{length, get_or, take, drop, set, ◌==◌, All, count_by, filter, AllPairs, flat_map, append_assoc}
use Rattle.std.proofs.{Common.{refl, sym, ap, ap₂, ◌∙◌, arith}, lemmas.{Bool.{eqb-false, eqb-true}, Grind.common_steps}}
use Rattle.std.proofs.lemmas.List.{length-map, get_or-map, append-nil}
use Rattle.std.proofs.lemmas.List.Elements.{All-head, All-tail, All-nil, All-cons, All-weaker, filter_more}
use Rattle.std.proofs.lemmas.List.Folds.{fold-map}
use Rattle.std.proofs.lemmas.List.Sums.{sum_by-cons, get_or-le-sum_by, sum_by-le-sum_by, sum_by-drop_more, sum_by-append}
use Rattle.std.proofs.lemmas.List.Sums.{sum_by-le}
use Rattle.std.specs.{List.sum_by, Prelude.if◌then◌else◌}
use Rattle.std.specs.List.{range_with_len}
use Rattle.std.proofs.lemmas.Bool.{ne_eqb}
use Rattle.graph_types.specs.declared.ids.VertexId.{VertexId}
use Rattle.graph_types.proofs.{Counts.{apart_tail, others, count_yes}, DegreeBounds.one_where, Elements.pairs_head}
use Rattle.graph_types.proofs.Numbers.{same_number}

pub count_more : {A : Type 0} (p : A → Bool) (x : A) (xs : List A) → count_by p (x ∷ xs) ≡ cond (p x) 1 0 + count_by p xs
count_more p x xs = sum_by-cons (λ x. cond (p x) 1 0) x xs

pub sum_map : {A B : Type 0} (f : B → ℕ) (g : A → B) (xs : List A) → sum_by f (map g xs) ≡ sum_by (λ x. f (g x)) xs
sum_map f g xs = fold-map (λ n x. n + f x) g 0 xs

pub sum_same_own : (own : ℕ → Bool) (f g : ℕ → ℕ) → ((s : ℕ) → own s ≡ true → f s ≡ g s) → (xs : List ℕ)
    → All (λ s. own s ≡ true) xs → sum_by f xs ≡ sum_by g xs
sum_same_own own f g same [] all = refl
sum_same_own own f g same (x ∷ xs) all =
    sum_by-cons f x xs
    ∙ (λ i. same x (All-head (λ s. own s ≡ true) x xs all) i
    + sum_same_own own f g same xs (All-tail (λ s. own s ≡ true) x xs all) i)
    ∙ sym (sum_by-cons g x xs)

-- what balances in each element balances in the whole list
pub balance : {X A : Type 0} (p : A → Bool) (a b c d : X → List A)
    → ((x : X) → count_by p (a x) + count_by p (b x) ≡ count_by p (c x) + count_by p (d x)) → (xs : List X)
    → count_by p (flat_map a xs) + count_by p (flat_map b xs) ≡ count_by p (flat_map c xs) + count_by p (flat_map d xs)
balance p a b c d each [] = refl
balance p a b c d each (x ∷ xs) = grind (arith, common_steps, balance p a b c d each xs)

-- what adds up in each element adds up in the whole list
pub adds_up : {X A : Type 0} (p : A → Bool) (a b c : X → List A)
    → ((x : X) → count_by p (a x) + count_by p (b x) ≡ count_by p (c x)) → (xs : List X)
    → count_by p (flat_map a xs) + count_by p (flat_map b xs) ≡ count_by p (flat_map c xs)
adds_up p a b c each [] = refl
adds_up p a b c each (x ∷ xs) = grind (arith, common_steps, adds_up p a b c each xs)

pub count_there : {A : Type 0} (p : A → Bool) (xs : List A) (k : ℕ) (d : A) → k < length xs → p (get_or xs k d) ≡ true
    → 0 < count_by p xs
count_there p xs k d lt e =
    omega (arith, get_or-le-sum_by (λ x. cond (p x) 1 0) xs k d lt, ap (λ t. cond {A = ℕ} t 1 0) e)

-- what passes a test passes a wider one
pub count_wider : {A : Type 0} (p q : A → Bool) → ((x : A) → p x ≡ true → q x ≡ true) → (xs : List A)
    → count_by p xs ≤ count_by q xs
count_wider p q h xs =
    sum_by-le-sum_by (λ x. cond (p x) 1 0) (λ x. cond (q x) 1 0) xs (λ x. one_where (p x) (q x) (h x))

-- a sum over the sources from one on
pub needed_row : (f : ℕ → ℕ) (sources : List VertexId) (row : ℕ) → row < length sources
    → sum_by f (drop row (map (λ s. s.0) sources))
    ≡ f (get_or sources row (record { 0 = 0 })).0 + sum_by f (drop (row + 1) (map (λ s. s.0) sources))
needed_row f sources row lt =
    let numbers : List ℕ = map (λ (s : VertexId). s.0) sources in
    sum_by-drop_more f numbers row 0 (omega (arith, length-map sources (λ (s : VertexId). s.0)))
    ∙ ap (λ n. f n + sum_by f (drop (row + 1) numbers)) (get_or-map (λ (s : VertexId). s.0) sources row (record { 0 = 0 }) 0 lt)

pub count_by-append : {A : Type 0} (q : A → Bool) (xs ys : List A) → count_by q (xs ++ ys) ≡ count_by q xs + count_by q ys
count_by-append q xs ys = sum_by-append (λ x. cond (q x) 1 0) xs ys

pub count_map : {A B : Type 0} (q : B → Bool) (f : A → B) (xs : List A) → count_by q (map f xs) ≡ count_by (λ x. q (f x)) xs
count_map q f [] = refl
count_map q f (x ∷ xs) = count_more q (f x) (map f xs) ∙ ap (λ k. cond (q (f x)) 1 0 + k) (count_map q f xs)
    ∙ sym (count_more (λ x. q (f x)) x xs)

-- how often elements stand in pieces, where one piece is changed
pub count_by-set : {A B : Type 0} (f : A → List B) (q : B → Bool) (xs : List A) (i : ℕ) (y d : A) → i < length xs
    → count_by q (flat_map f (set xs i y)) + count_by q (f (get_or xs i d)) ≡ count_by q (flat_map f xs) + count_by q (f y)
count_by-set f q [] i y d lt = absurd (omega arith)
count_by-set f q (x ∷ xs) zero y d lt = grind (arith, common_steps, count_by-append)
count_by-set f q (x ∷ xs) (suc i) y d lt = grind (arith, common_steps, count_by-set f q xs i y d (omega arith))

pub only : (xs : List ℕ) (d : ℕ) → length xs ≡ 1 → sum_by (λ n. n) xs ≡ get_or xs 0 d
only xs d one = grind (arith, common_steps, sum_by-cons)

pub numbers_one : (q : ℕ → Bool) (xs : List ℕ) (rest all : ℕ) → rest + count_by q xs ≡ all → count_by q (xs ++ []) + rest ≡ all
numbers_one q xs rest all e = grind (arith, common_steps, append-nil)

pub sum_zero : (f : ℕ → ℕ) → ((s : ℕ) → f s ≡ 0) → (xs : List ℕ) → sum_by f xs ≡ 0
sum_zero f zeros [] = refl
sum_zero f zeros (x ∷ xs) = omega (arith, sum_by-cons f x xs, zeros x, sum_zero f zeros xs)

pub below_sum : (n : ℕ) (xs : List ℕ) → sum_by (λ x. x) xs < n → All (λ x. x < n) xs
below_sum n [] lt = All-nil (λ x. x < n)
below_sum n (x ∷ xs) lt = grind (arith, common_steps, sum_by-cons, All-cons)

pub count_lists : (q : ℕ → Bool) (h : ℕ → List ℕ) (xs : List ℕ) → count_by q (flat_map h xs) ≡ sum_by (λ s. count_by q (h s)) xs
count_lists q h [] = refl
count_lists q h (x ∷ xs) =
    count_by-append q (h x) (flat_map h xs) ∙ ap (λ k. count_by q (h x) + k) (count_lists q h xs)
    ∙ sym (sum_by-cons (λ s. count_by q (h s)) x xs)

sum_none : (xs : List ℕ) → sum_by (λ n. n) (take 0 xs) ≡ 0
sum_none xs = grind (arith, common_steps)

pub sum_taken : (i : ℕ) (xs : List ℕ) (d : ℕ) → i < length xs
    → sum_by (λ n. n) (take (i + 1) xs) ≡ sum_by (λ n. n) (take i xs) + get_or xs i d
sum_taken i [] d lt = absurd (omega (arith, lt))
sum_taken zero (x ∷ xs) d lt = omega (arith, sum_by-cons (λ (n : ℕ). n) x (take 0 xs), sum_none xs)
sum_taken (suc i) (x ∷ xs) d lt =
    let next : suc i + 1 ≡ suc (i + 1) = omega arith in
    ap (λ (m : ℕ). sum_by (λ n. n) (take m (x ∷ xs))) next
    ∙ omega (
      arith,
      sum_by-cons (λ (n : ℕ). n) x (take (i + 1) xs),
      sum_by-cons (λ (n : ℕ). n) x (take i xs),
      sum_taken i xs d (omega (arith, lt)),
    )

pub sum_same : (f h : ℕ → ℕ) (xs : List ℕ) → All (λ x. f x ≡ h x) xs → sum_by f xs ≡ sum_by h xs
sum_same f h [] all = refl
sum_same f h (x ∷ xs) all =
    sum_by-cons f x xs ∙ ap₂ (λ a b. a + b) (All-head (λ x. f x ≡ h x) x xs all)
    (sum_same f h xs (All-tail (λ x. f x ≡ h x) x xs all)) ∙ sym (sum_by-cons h x xs)

pub sum_lists : {A : Type 0} (p : A → Bool) (h : ℕ → List A) (xs : List ℕ)
    → sum_by (λ s. count_by p (h s)) xs ≡ count_by p (flat_map h xs)
sum_lists p h [] = refl
sum_lists p h (x ∷ xs) =
    sum_by-cons (λ s. count_by p (h s)) x xs ∙ ap (λ k. count_by p (h x) + k) (sum_lists p h xs)
    ∙ sym (count_by-append p (h x) (flat_map h xs))

pub sum_each : {X : Type 0} (f h : X → ℕ) → ((x : X) → f x ≡ h x) → (xs : List X) → sum_by f xs ≡ sum_by h xs
sum_each f h each [] = refl
sum_each f h each (x ∷ xs) = sum_by-cons f x xs ∙ ap₂ (λ a b. a + b) (each x) (sum_each f h each xs) ∙ sym (sum_by-cons h x xs)

pub sum_add : (f g : ℕ → ℕ) (xs : List ℕ) → sum_by (λ x. f x + g x) xs ≡ sum_by f xs + sum_by g xs
sum_add f g [] = refl
sum_add f g (x ∷ xs) = grind (arith, common_steps, sum_add f g xs)

pub at_itself : (first k n : ℕ) → k ≡ first → n ≤ cond (k == first) n 0
at_itself first k n same = grind (arith, common_steps, eqb-false)

-- what is at one number alone is in the sum over different numbers once at most
pub once_sum : (n first : ℕ) (xs : List ℕ) → AllPairs (λ a b. a ≢ b) xs → sum_by (λ s. cond (s == first) n 0) xs ≤ n
once_sum n first [] pairs = omega arith
once_sum n first (x ∷ xs) pairs =
    let f : ℕ → ℕ = λ s. cond (s == first) n 0 in
    let one = sum_by-cons f x xs in
    let rest = once_sum n first xs (apart_tail x xs pairs) in
    elim (x == first) as (λ b. x == first ≡ b → sum_by f (x ∷ xs) ≡ cond b n 0 + sum_by f xs → sum_by f (x ∷ xs) ≤ n) [
      | true ↦ λ t e.
          let none = sum_by-le f 0 xs (All-weaker (λ y. x ≢ y) (λ y. f y ≤ 0) (λ y ne.
          elim (y == first) as (λ b. y == first ≡ b → cond b n 0 ≤ 0) [
            | true ↦ λ same. absurd (ne (eqb-true x first t ∙ sym (eqb-true y first same)))
            | false ↦ λ _. omega arith
          ] refl) xs (pairs_head x xs pairs)) in
          omega arith
      | false ↦ λ _ e. omega arith
    ] refl one

pub count_filter : (p : ℕ → Bool) (n : ℕ) (xs : List ℕ) → count_by p (others n xs) ≤ count_by p xs
count_filter p n [] = omega arith
count_filter p n (x ∷ xs) = grind (arith, common_steps, count_filter p n xs)

pub count_others : (m n : ℕ) → (m ≡ n → ⊥) → (xs : List ℕ) → count_by (λ x. x == m) (others n xs) ≡ count_by (λ x. x == m) xs
count_others m n ne [] = refl
count_others m n ne (x ∷ xs) = grind (arith, common_steps, count_others m n ne xs)

pub sum_absent : (f : ℕ → ℕ) (n : ℕ) (xs : List ℕ) → count_by (λ x. x == n) xs ≡ 0 → sum_by f xs ≡ sum_by f (others n xs)
sum_absent f n [] e = refl
sum_absent f n (x ∷ xs) e =
    elim (x == n) as (λ b. cond b 1 0 + count_by (λ x. x == n) xs ≡ 0
    → sum_by f (x ∷ xs) ≡ sum_by f (cond (not b) (x ∷ others n xs) (others n xs))) [
      | true ↦ λ z. absurd (omega arith)
      | false ↦ λ z. sum_by-cons f x xs ∙ ap (λ k. f x + k) (sum_absent f n xs (omega arith)) ∙ sym (sum_by-cons f x (others n xs))
    ] (sym (count_more (λ x. x == n) x xs) ∙ e)

pub sum_one : (f : ℕ → ℕ) (n : ℕ) (xs : List ℕ) → count_by (λ x. x == n) xs ≡ 1 → sum_by f xs ≡ f n + sum_by f (others n xs)
sum_one f n [] e = absurd (omega arith)
sum_one f n (x ∷ xs) e =
    elim (x == n) as (λ b. x == n ≡ b → cond b 1 0 + count_by (λ x. x == n) xs ≡ 1
    → sum_by f (x ∷ xs) ≡ f n + sum_by f (cond (not b) (x ∷ others n xs) (others n xs))) [
      | true ↦ λ t z. sum_by-cons f x xs ∙ ap₂ (λ a b. a + b) (ap f (eqb-true x n t)) (sum_absent f n xs (omega arith))
      | false ↦ λ t z. let a = sum_by-cons f x xs in let b = sum_by-cons f x (others n xs) in
          let rest = sum_one f n xs (omega arith) in omega arith
    ] refl (sym (count_more (λ x. x == n) x xs) ∙ e)

pub others_below : (n : ℕ) (xs : List ℕ) → All (λ x. x < suc n) xs → All (λ x. x < n) (others n xs)
others_below n [] all = All-nil (λ x. x < n)
others_below n (x ∷ xs) all =
    grind (arith, common_steps, All-tail, All-head, eqb-false, All-cons, others_below n xs (All-tail (λ x. x < suc n) x xs all))

pub none_below : (f : ℕ → ℕ) (xs : List ℕ) → All (λ x. x < 0) xs → sum_by f xs ≡ 0
none_below f xs all = grind (arith, common_steps, All-head)

pub all_pass : (p : ℕ → Bool) (xs : List ℕ) → All (λ x. p x ≡ true) xs → length xs ≡ count_by p xs
all_pass p [] h = refl
all_pass p (x ∷ xs) h = omega (arith, count_yes p x xs (h 0 x (omega arith)), all_pass p xs (All-tail (λ y. p y ≡ true) x xs h))

-- one vertex more, put at the end where it passes
pub one_more : (p : ℕ → Bool) (old from before after : List ℕ) (i : ℕ) (passes : Bool) → i < length from
    → before ≡ old ++ filter p (take i from) → p (get_or from i 0) ≡ passes
    → after ≡ before ++ cond passes (get_or from i 0 ∷ []) [] → after ≡ old ++ filter p (take (i + 1) from)
one_more p old from before after i passes lt was is put =
    put ∙ (λ j. was j ++ cond (sym is j) (get_or from i 0 ∷ []) [])
    ∙ append_assoc old (filter p (take i from)) (cond (p (get_or from i 0)) (get_or from i 0 ∷ []) [])
    ∙ ap (λ xs. old ++ xs) (sym (filter_more p from i 0 lt))

pub count_at : {A : Type 0} (p : A → Bool) (xs : List A) (i : ℕ) (d : A) → i < length xs → p (get_or xs i d) ≡ true
    → 1 ≤ count_by p xs
count_at p xs i d lt e = grind (arith, common_steps)

pub twice : (xs : List ℕ) (a b d : ℕ) → a < b → b < length xs → get_or xs a d ≡ get_or xs b d
    → 2 ≤ count_by (λ x. x == get_or xs b d) xs
twice (x ∷ xs) zero (suc b) d lt within e =
    let m = count_more (λ y. y == get_or xs b d) x xs in
    let one : (let k : ℕ = cond (x == get_or xs b d) 1 0 in k) ≡ 1 =
    ap (λ y. cond (y == get_or xs b d) 1 0) e ∙ ap (λ b. cond b 1 0) (same_number (get_or xs b d)) in
    let more = count_at (λ y. y == get_or xs b d) xs b d (omega arith) (same_number (get_or xs b d)) in
    omega arith
twice (x ∷ xs) (suc a) (suc b) d lt within e =
    let m = count_more (λ y. y == get_or xs b d) x xs in
    let more = twice xs a b d (omega arith) (omega arith) e in
    omega arith
twice _ a b d lt within e = absurd (omega arith)

pub count_last : {A : Type 0} (p : A → Bool) (xs : List A) (x : A) → count_by p (xs ++ x ∷ []) ≡ count_by p xs + cond (p x) 1 0
count_last p xs x = grind (arith, common_steps)

pub count_true : {A : Type 0} (xs : List A) → count_by (λ _. true) xs ≡ length xs
count_true [] = refl
count_true (x ∷ xs) = let m = count_more (λ _. true) x xs in let rest = count_true xs in omega arith

pub count_here : {A : Type 0} (p : A → Bool) (pool : List A) (k : ℕ) (s d : A) → k < length pool
    → count_by p (set pool k s) + cond (p (get_or pool k d)) 1 0 ≡ count_by p pool + cond (p s) 1 0
count_here p pool k s d lt = Rattle.std.proofs.lemmas.List.Sums.sum_by-set (λ s. cond (p s) 1 0) pool k s d lt

pub count_none : (ns : List ℕ) → count_by (λ _. false) ns ≡ 0
count_none [] = refl
count_none (n ∷ ns) = omega (arith, count_more (λ _. false) n ns, count_none ns)

pub count_filtered : {X : Type 0} (p q : X → Bool) (xs : List X) → count_by (λ x. p x && q x) xs ≡ count_by q (filter p xs)
count_filtered p q [] = refl
count_filtered p q (x ∷ xs) =
    let rest = count_filtered p q xs in
    let one = count_more (λ x. p x && q x) x xs in
    elim (p x) as (λ t. p x ≡ t → count_by (λ x. p x && q x) (x ∷ xs) ≡ count_by q (if t then x ∷ filter p xs else filter p xs)) [
      | true ↦ λ e. (let here : (let n : ℕ = cond (p x && q x) 1 0 in n) ≡ cond (q x) 1 0 = ap (λ t. cond (t && q x) 1 0) e in
          let more = count_more q x (filter p xs) in omega arith)
      | false ↦ λ e. (let here : (let n : ℕ = cond (p x && q x) 1 0 in n) ≡ 0 = ap (λ t. cond (t && q x) 1 0) e in omega arith)
    ] refl

abbrev pub hits : ℕ → ℕ → ℕ → ℕ
hits m a k = sum_by (λ w. cond (m == w) 1 0) (range_with_len a k)

hits_past : (m a k : ℕ) → m < a → hits m a k ≡ 0
hits_past m a zero lt = refl
hits_past m a (suc k) lt =
    let c = sum_by-cons (λ w. cond {A = ℕ} (m == w) 1 0) a (range_with_len (a + 1) k) in
    let no : (let n : ℕ = cond (m == a) 1 0 in n) ≡ 0 = ap (λ b. cond b 1 0) (ne_eqb m a (λ e. omega (arith, e, lt))) in
    omega (arith, c, no, hits_past m (a + 1) k (omega (arith, lt)))

pub hits_few : (m a k : ℕ) → hits m a k ≤ 1
hits_few m a zero = omega arith
hits_few m a (suc k) =
    elim (m == a) as (λ b. m == a ≡ b → hits m a (suc k) ≡ cond b 1 0 + hits m (a + 1) k → hits m a (suc k) ≤ 1) [
      | true ↦ λ t c. omega (arith, c, hits_past m (a + 1) k (omega (arith, eqb-true m a t)))
      | false ↦ λ t c. omega (arith, c, hits_few m (a + 1) k)
    ] refl (sum_by-cons (λ w. cond {A = ℕ} (m == w) 1 0) a (range_with_len (a + 1) k))
