-- How often a number stands in a list.
use Rattle.std.proofs.Common.{◌≡◌, ℕ, zero, suc, ◌+◌, ◌<◌, ◌≤◌, true, false, cond, ◌||◌, ◌≢◌, List, [], ◌∷◌, ◌++◌, length, get_or}
use Rattle.std.proofs.Common.{nat_eq, ◌==◌, All, count_by, AllPairs, inl, inr, refl, sym, ap, ◌∙◌, arith, Bool}
use Rattle.std.proofs.lemmas.Bool.{eq-eqb, true≢false, eqb-true, false_from_ne_true, cases_Bool, cases_eq, cases_lt}
use Rattle.std.proofs.lemmas.{Bool.Decides.Decides-eqb, Grind.common_steps, List.Elements.{All-tail, All-head, All-contains}}
use Rattle.std.proofs.lemmas.List.FromFn.{length-range_with_len, get_or-range_with_len}
use Rattle.std.specs.List.{list_any, Contains, range_with_len}
use Rattle.graph_types.proofs.Counts.{count_yes, count_no, Contains-nil, Contains-cons_cases, Contains-first, Contains-cons}
use Rattle.graph_types.proofs.{Counts.{apart_head, apart_tail, sub_length}, Sums.count_more}

-- how often a number stands in a list
abbrev pub times : ℕ → List ℕ → ℕ
times m ns = count_by (λ n. n == m) ns

pub some_times : (xs : List ℕ) (i d : ℕ) → i < length xs → 1 ≤ times (get_or xs i d) xs
some_times [] i d lt = absurd (omega arith)
some_times (x ∷ xs) zero d lt = grind (arith, common_steps, count_more, eq-eqb)
some_times (x ∷ xs) (suc i) d lt = omega (arith, count_more (λ y. y == get_or xs i d) x xs, some_times xs i d (omega arith))

pub pairs : (xs : List ℕ) → ((m : ℕ) → times m xs ≤ 1) → AllPairs (λ a b. a ≢ b) xs
pairs [] once i j d lt within e = absurd (omega arith)
pairs (x ∷ xs) once zero zero d lt within e = absurd (omega arith)
pairs (x ∷ xs) once zero (suc j) d lt within e =
    let some = some_times xs j d (omega arith) in
    let c = count_more (λ y. y == x) x xs in
    let yes : (let k : ℕ = cond (x == x) 1 0 in k) ≡ 1 = ap (λ b. cond b 1 0) (eq-eqb x x refl) in
    let one = once x in
    let same : times x xs ≡ times (get_or xs j d) xs = ap (λ m. times m xs) e in
    absurd (omega (arith, some, c, yes, one, same))
pairs (x ∷ xs) once (suc i) zero d lt within e = absurd (omega arith)
pairs (x ∷ xs) once (suc i) (suc j) d lt within e =
    pairs xs (λ m. let c = count_more (λ y. y == m) x xs in omega (arith, c, once m)) i j d (omega arith) (omega arith) e

pub not_in : (n : ℕ) (xs : List ℕ) → list_any (λ c. c == n) xs ≡ false → times n xs ≡ 0
not_in n [] none = refl
not_in n (x ∷ xs) none =
    let c = count_more (λ y. y == n) x xs in
    elim (x == n) as (λ b. (b || list_any (λ c. c == n) xs) ≡ false → times n (x ∷ xs) ≡ cond b 1 0 + times n xs
    → times n (x ∷ xs) ≡ 0) [
      | true ↦ λ e. absurd (true≢false e)
      | false ↦ λ e is. let rest = not_in n xs e in omega (arith, is, rest)
    ] none c

pub listed_times : (m : ℕ) (xs : List ℕ) → list_any (nat_eq m) xs ≡ true → 1 ≤ times m xs
listed_times m [] e = absurd (true≢false (sym e))
listed_times m (x ∷ xs) e =
    let c = count_more (λ y. y == m) x xs in
    elim (m == x) as (λ b. m == x ≡ b → (b || list_any (nat_eq m) xs) ≡ true → 1 ≤ times m (x ∷ xs)) [
      | true ↦ λ t f.
          let yes : (let k : ℕ = cond (x == m) 1 0 in k) ≡ 1 = ap (λ y. cond (y == m) 1 0) (sym (eqb-true m x t))
          ∙ ap (λ b. cond b 1 0) (eq-eqb m m refl) in omega (arith, c, yes)
      | false ↦ λ t f. let rest = listed_times m xs f in omega (arith, c, rest)
    ] refl e

pub no_times : (m : ℕ) (xs : List ℕ) → All (λ x. x ≡ m → ⊥) xs → times m xs ≡ 0
no_times m [] none = refl
no_times m (x ∷ xs) none =
    let rest = no_times m xs (All-tail (λ x. x ≡ m → ⊥) x xs none) in
    let c = count_more (λ x. x == m) x xs in
    let no : (let k : ℕ = cond (x == m) 1 0 in k) ≡ 0 =
    ap (λ b. cond b 1 0) (false_from_ne_true (x == m) (λ e. All-head (λ x. x ≡ m → ⊥) x xs none (eqb-true x m e))) in
    omega arith

pub differ : (y x : ℕ) → (y ≡ x → ⊥) → (y == x) ≡ false
differ y x ne = elim (cases_Bool (y == x)) [ inl t ↦ absurd (ne ((Decides-eqb y x).0 t)) | inr f ↦ f ]

pub times_yes : (x y : ℕ) (xs : List ℕ) → y ≡ x → times x (y ∷ xs) ≡ 1 + times x xs
times_yes x y xs e = count_yes (λ z. z == x) y xs ((Decides-eqb y x).1 e)

pub times_no : (x y : ℕ) (xs : List ℕ) → (y ≡ x → ⊥) → times x (y ∷ xs) ≡ times x xs
times_no x y xs ne = count_no (λ z. z == x) y xs (differ y x ne)

pub has_times : (x : ℕ) (xs : List ℕ) → Contains xs x → 1 ≤ times x xs
has_times x [] c = absurd (Contains-nil x c)
has_times x (y ∷ ys) c = grind (arith, common_steps, cases_eq, times_yes, Contains-cons_cases, times_no)

pub times_has : (x : ℕ) (xs : List ℕ) → 1 ≤ times x xs → Contains xs x
times_has x [] m = absurd (omega arith)
times_has x (y ∷ ys) m = elim (cases_eq y x) [
  | inl e ↦ Contains-first y ys x e
  | inr ne ↦ let t = times_no x y ys ne in Contains-cons y ys x (times_has x ys (omega arith))
]

pub apart_times : (x : ℕ) (xs : List ℕ) → AllPairs (λ a b. a ≢ b) xs → times x xs ≤ 1
apart_times x [] h = omega arith
apart_times x (y ∷ ys) h = elim (cases_eq y x) [
  | inl e ↦
      let t = times_yes x y ys e in
      elim (cases_lt 0 (times x ys)) [
        | inl lt ↦ absurd (apart_head y ys x h (times_has x ys (omega arith)) e)
        | inr le ↦ omega arith
      ]
  | inr ne ↦ let t = times_no x y ys ne in let m = apart_times x ys (apart_tail y ys h) in omega arith
]

-- distinct numbers below n are at most n
pub apart_few : (n : ℕ) (xs : List ℕ) → AllPairs (λ a b. a ≢ b) xs → All (λ x. x < n) xs → length xs ≤ n
apart_few n xs apart within =
    let long = length-range_with_len 0 n in
    let few = sub_length xs (range_with_len 0 n) apart (λ w c.
    let lt : w < n = All-contains (λ x. x < n) xs w within c in
    (w, omega arith, (let x = get_or-range_with_len 0 n w w lt in omega arith))) in
    omega arith

-- a list with its last number first has each number as often
pub turned_times : (m n : ℕ) (ns : List ℕ) → times m (ns ++ n ∷ []) ≡ times m (n ∷ ns)
turned_times m n ns = grind (arith, common_steps)

abbrev pub is_some_times : ℕ → Bool
is_some_times zero = false
is_some_times (suc n) = true

pub some_either : (a b : ℕ) → is_some_times b ≡ true → is_some_times (a + b) ≡ true
some_either a b e = grind (arith, common_steps)

pub none_times : (t : ℕ) → is_some_times t ≡ false → t ≡ 0
none_times t e = grind (arith, common_steps)

pub zero_times : (t : ℕ) → t ≡ 0 → is_some_times t ≡ false
zero_times t e = grind (arith, common_steps)
