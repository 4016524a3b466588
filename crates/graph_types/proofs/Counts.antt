-- Lists of distinct numbers, and how many of a list pass a test.
use Rattle.std.proofs.Common.{◌≡◌, ◌≢◌, ℕ, suc, ◌+◌, ◌<◌, ◌≤◌, arith, refl, sym, ap, ◌∙◌, ◌⊎◌, inl, inr, List, [], ◌∷◌}
use Rattle.std.proofs.Common.{length, cond, true, false, Bool, not}
use Rattle.std.proofs.lemmas.{Bool.ne_eqb, Bool.Decides.Decides-eqb, List.Sums.{sum_by-cons, length-filter, count_by-le-length}}
use Rattle.std.specs.{Prelude.◌==◌, Prelude.AllPairs, Prelude.count_by, Prelude.filter, List.Contains}
use Rattle.std.proofs.lemmas.Grind.{common_steps}

module _ {X : Type 0} where
  pub Contains-cons_cases : (x : X) (xs : List X) (y : X) → Contains (x ∷ xs) y → (x ≡ y) ⊎ Contains xs y
  Contains-cons_cases x xs y h3 = grind (arith, common_steps)

  pub Contains-nil : (y : X) → Contains [] y → ⊥
  Contains-nil y c = let lt = c.1 in omega arith

  pub Contains-first : (x : X) (xs : List X) (y : X) → x ≡ y → Contains (x ∷ xs) y
  Contains-first x xs y e = (0, omega arith, e)

  pub Contains-cons : (x : X) (xs : List X) (y : X) → Contains xs y → Contains (x ∷ xs) y
  Contains-cons x xs y c = (suc c.0, (let lt = c.1 in omega arith), c.2)

  pub apart_tail : (x : X) (xs : List X) → AllPairs (λ a b. a ≢ b) (x ∷ xs) → AllPairs (λ a b. a ≢ b) xs
  apart_tail x xs h = λ i j d lt l. h (suc i) (suc j) d (omega arith) (omega arith)

  pub apart_head : (x : X) (xs : List X) (y : X) → AllPairs (λ a b. a ≢ b) (x ∷ xs) → Contains xs y → x ≡ y → ⊥
  apart_head x xs y h c e = h 0 (suc c.0) y (omega arith) (let lt = c.1 in omega arith) (e ∙ sym c.2)

  pub count_yes : (p : X → Bool) (x : X) (xs : List X) → p x ≡ true → count_by p (x ∷ xs) ≡ 1 + count_by p xs
  count_yes p x xs h = sum_by-cons (λ y. cond (p y) 1 0) x xs ∙ ap (λ b. cond b 1 0 + count_by p xs) h

  pub count_no : (p : X → Bool) (x : X) (xs : List X) → p x ≡ false → count_by p (x ∷ xs) ≡ count_by p xs
  count_no p x xs h = grind (arith, common_steps)

  pub contains_filter : (p : X → Bool) (xs : List X) (x : X) → p x ≡ true → Contains xs x → Contains (filter p xs) x
  contains_filter p [] x on c = absurd (Contains-nil x c)
  contains_filter p (y ∷ ys) x on c =
      elim (p y) as (λ b. p y ≡ b → Contains (cond b (y ∷ filter p ys) (filter p ys)) x) [
        | true ↦ λ e. elim (Contains-cons_cases y ys x c) [
          | inl same ↦ Contains-first y (filter p ys) x same
          | inr more ↦ Contains-cons y (filter p ys) x (contains_filter p ys x on more)
        ]
        | false ↦ λ e. elim (Contains-cons_cases y ys x c) [
          | inl same ↦ let both = sym e ∙ ap p same ∙ on in absurd (cc)
          | inr more ↦ contains_filter p ys x on more
        ]
      ] refl

  pub filter_contains : (p : X → Bool) (xs : List X) (x : X) → Contains (filter p xs) x → Contains xs x × (p x ≡ true)
  filter_contains p [] x c = absurd (Contains-nil x c)
  filter_contains p (y ∷ ys) x c =
      elim (p y) as (λ b. p y ≡ b → Contains (cond b (y ∷ filter p ys) (filter p ys)) x → Contains (y ∷ ys) x × (p x ≡ true)) [
        | true ↦ λ e c. elim (Contains-cons_cases y (filter p ys) x c) [
          | inl same ↦ (Contains-first y ys x same, sym (ap p same) ∙ e)
          | inr more ↦ let r = filter_contains p ys x more in (Contains-cons y ys x r.0, r.1)
        ]
        | false ↦ λ e c. let r = filter_contains p ys x c in (Contains-cons y ys x r.0, r.1)
      ] refl c

abbrev pub others : ℕ → List ℕ → List ℕ
others x ys = filter (λ y. not (y == x)) ys

kept_others : (x : ℕ) (ys : List ℕ) → length (others x ys) ≤ length ys
kept_others x ys = omega (arith, length-filter (λ y. not (y == x)) ys, count_by-le-length (λ y. not (y == x)) ys)

-- leaving out a number that is listed makes a list shorter
fewer_others : (x : ℕ) (ys : List ℕ) → Contains ys x → length (others x ys) < length ys
fewer_others x [] c = absurd (Contains-nil x c)
fewer_others x (y ∷ ys) c = elim (y == x) as (λ b. (y == x) ≡ b
    → length (cond (not b) (y ∷ others x ys) (others x ys)) < suc (length ys)) [
      | true ↦ λ e. let r = kept_others x ys in omega arith
      | false ↦ λ e. elim (Contains-cons_cases y ys x c) [
        | inl same ↦ let both = sym e ∙ (Decides-eqb y x).1 same in absurd (cc)
        | inr more ↦ let r = fewer_others x ys more in omega arith
      ]
    ] refl

-- distinct numbers of a list are no more than it has
pub sub_length : (xs ys : List ℕ) → AllPairs (λ a b. a ≢ b) xs → ((x : ℕ) → Contains xs x → Contains ys x) → length xs ≤ length ys
sub_length [] ys h sub = omega arith
sub_length (x ∷ xs) ys h sub =
    let one = sub_length xs (others x ys) (apart_tail x xs h)
    (λ z c. contains_filter (λ y. not (y == x)) ys z (ap not (ne_eqb z x (λ e. apart_head x xs z h c (sym e))))
    (sub z (Contains-cons x xs z c))) in
    let some = fewer_others x ys (sub x (Contains-first x xs x refl)) in
    omega arith

-- nor more than it has that pass a test which they pass
pub passing_length : (p : ℕ → Bool) (xs ys : List ℕ) → AllPairs (λ a b. a ≢ b) xs
    → ((x : ℕ) → Contains xs x → Contains ys x × (p x ≡ true)) → length xs ≤ count_by p ys
passing_length p xs ys h sub =
    let one = sub_length xs (filter p ys) h (λ x c. let s = sub x c in contains_filter p ys x s.1 s.0) in
    let long = length-filter p ys in
    omega arith
