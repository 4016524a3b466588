-- A list whose elements have something at keys, and one change to the first element that passes a test.
use Rattle.std.proofs.Common.{◌≡◌, List, [], ◌∷◌, ◌++◌, Bool, true, false, cond, ◌||◌, refl, sym, ap, ◌∙◌, subst, Option, Some}
use Rattle.std.proofs.{Common.{None, is_some, ◌⊎◌, inl, inr, All}, lemmas.{Bool.false≢true, List.Elements.All-head}}
use Rattle.std.{proofs.lemmas.List.Elements.All-tail, specs.{List.list_any, Option.option_or}}
use Rattle.std.proofs.{Common.arith, lemmas.Grind.common_steps}
use Rattle.graph_types.proofs.Cases.{option_or_none, some_not_none, none_is}
use Rattle.edge_block.specs.Slots.{first_some, NoKeyTwice, at_first}

first_append : {A B : Type 0} (g : A → Option B) (xs : List A) (y : A)
    → first_some g (xs ++ y ∷ []) ≡ option_or (first_some g xs) (g y)
first_append g [] y = option_or_none (g y)
first_append g (x ∷ xs) y = ap (option_or (g x)) (first_append g xs y) ∙ assoc (g x) (first_some g xs) (g y) where
  assoc : {B : Type 0} (a b c : Option B) → option_or a (option_or b c) ≡ option_or (option_or a b) c
  assoc None b c = refl
  assoc (Some x) b c = refl

-- elements, keys told apart by a test, one key, and what is to stand there
module _ {A K B : Type 0} (at : A → K → Option B) (same : K → K → Bool) (sound : (a b : K) → same a b ≡ true → a ≡ b) (k : K)
    (o : Option B) where
  -- what a list has at a key
  abbrev pub chain : List A → K → Option B
  chain xs q = first_some (λ y. at y q) xs

  or_same : (c : Bool) (x y : Option B) → (c ≡ true → y ≡ None) → option_or (cond c o x) y ≡ cond c o (option_or x y)
  or_same h0 x y h = grind (arith, common_steps)

  or_skip : (c : Bool) (x y : Option B) → (c ≡ true → x ≡ None) → option_or x (cond c o y) ≡ cond c o (option_or x y)
  or_skip h0 x y h = grind (arith, common_steps)

  at_key : (q : K) (x : A) → at x k ≡ None → same q k ≡ true → at x q ≡ None
  at_key q x h e = ap (at x) (sound q k e) ∙ h

  chain_key : (q : K) (xs : List A) → chain xs k ≡ None → same q k ≡ true → chain xs q ≡ None
  chain_key q xs h e = ap (chain xs) (sound q k e) ∙ h

  -- an element has o at the key, and elsewhere what another has
  abbrev pub Puts : A → A → Type 0
  Puts y x = (q : K) → at y q ≡ cond (same q k) o (at x q)

  module _ (p : A → Bool) (f : A → A) where
    -- the first element that passes takes o at the key, and no other has anything there
    abbrev pub Fits : List A → Type 0
    Fits [] = ⊥
    Fits (x ∷ xs) = ((p x ≡ true) × Puts (f x) x × (chain xs k ≡ None)) ⊎ ((p x ≡ false) × (at x k ≡ None) × Fits xs)

    -- the changed list has o at the key, and elsewhere what the list had
    pub set_first : (xs : List A) → Fits xs → (q : K) → chain (at_first p f xs) q ≡ cond (same q k) o (chain xs q)
    set_first [] h q = absurd h
    set_first (x ∷ xs) (inl h) q =
        ap (λ b. chain (cond b (f x ∷ xs) (x ∷ at_first p f xs)) q) h.0
        ∙ ap (λ z. option_or z (chain xs q)) (h.1 q)
        ∙ or_same (same q k) (at x q) (chain xs q) (chain_key q xs h.2)
    set_first (x ∷ xs) (inr h) q =
        ap (λ b. chain (cond b (f x ∷ xs) (x ∷ at_first p f xs)) q) h.0
        ∙ ap (option_or (at x q)) (set_first xs h.2 q)
        ∙ or_skip (same q k) (at x q) (chain xs q) (at_key q x h.1)

    -- and it has no key twice, if the list had none
    pub set_unique : (xs : List A) → Fits xs → NoKeyTwice at xs → NoKeyTwice at (at_first p f xs)
    set_unique [] h u = absurd h
    set_unique (x ∷ xs) (inl h) u =
        subst (λ b. NoKeyTwice at (cond b (f x ∷ xs) (x ∷ at_first p f xs))) (sym h.0) (
          λ q is.
              elim (same q k) as (λ c. same q k ≡ c → is_some (cond c o (at x q)) ≡ true → chain xs q ≡ None) [
                | true ↦ λ t i. chain_key q xs h.2 t
                | false ↦ λ t i. u.0 q i
              ] refl (ap is_some (sym (h.1 q)) ∙ is),
          u.1,
        )
    set_unique (x ∷ xs) (inr h) u =
        subst (λ b. NoKeyTwice at (cond b (f x ∷ xs) (x ∷ at_first p f xs))) (sym h.0) (
          λ q is.
              set_first xs h.2 q
              ∙ elim (same q k) as (λ c. same q k ≡ c → cond c o (chain xs q) ≡ None) [
                | true ↦ λ t. absurd (some_not_none (at x q) is (at_key q x h.1 t))
                | false ↦ λ t. u.0 q is
              ] refl,
          set_unique xs h.2 u.1,
        )

  -- the element that has the key is changed
  pub fits_key : (f : A → A) (xs : List A) → list_any (λ x. is_some (at x k)) xs ≡ true → NoKeyTwice at xs
      → All (λ x. is_some (at x k) ≡ true → Puts (f x) x) xs → Fits (λ x. is_some (at x k)) f xs
  fits_key f [] h u l = absurd (false≢true h)
  fits_key f (x ∷ xs) h u l =
      elim (is_some (at x k)) as (λ b. is_some (at x k) ≡ b → (b || list_any (λ x. is_some (at x k)) xs) ≡ true
      → Fits (λ x. is_some (at x k)) f (x ∷ xs)) [
        | true ↦ λ t n. inl (t, All-head (λ x. is_some (at x k) ≡ true → Puts (f x) x) x xs l t, u.0 k t)
        | false ↦
            λ t n. inr (
              t,
              none_is (at x k) t,
              fits_key f xs n u.1
                  (All-tail (λ x. is_some (at x k) ≡ true → Puts (f x) x) x xs l),
            )
      ] refl h

  first_of_two : (x y : Option B) → option_or x y ≡ None → (x ≡ None) × (y ≡ None)
  first_of_two h0 y h = grind (arith, common_steps)

  -- an element that passes another test is changed, where no element has the key
  pub fits_room : (p : A → Bool) (f : A → A) (xs : List A) → list_any p xs ≡ true → chain xs k ≡ None
      → All (λ x. p x ≡ true → at x k ≡ None → Puts (f x) x) xs → Fits p f xs
  fits_room p f [] h none l = absurd (false≢true h)
  fits_room p f (x ∷ xs) h none l =
      let parts : (at x k ≡ None) × (chain xs k ≡ None) = first_of_two (at x k) (chain xs k) none in
      elim (p x) as (λ b. p x ≡ b → (b || list_any p xs) ≡ true → Fits p f (x ∷ xs)) [
        | true ↦ λ t n. inl (t, All-head (λ x. p x ≡ true → at x k ≡ None → Puts (f x) x) x xs l t parts.0, parts.1)
        | false ↦
            λ t n. inr (t, parts.0, fits_room p f xs n parts.1 (All-tail (λ x. p x ≡ true → at x k ≡ None → Puts (f x) x) x xs l))
      ] refl h

  -- whether an element has the key
  pub any_key : (xs : List A) → list_any (λ x. is_some (at x k)) xs ≡ is_some (chain xs k)
  any_key [] = refl
  any_key (x ∷ xs) = ap (λ b. is_some (at x k) || b) (any_key xs) ∙ either (at x k) (chain xs k) where
    either : (x y : Option B) → (is_some x || is_some y) ≡ is_some (option_or x y)
    either None y = refl
    either (Some x) y = refl

  -- an element at the end, where no element has the key
  pub set_last : (xs : List A) (y : A) → chain xs k ≡ None → ((q : K) → at y q ≡ cond (same q k) o None) → (q : K)
      → chain (xs ++ y ∷ []) q ≡ cond (same q k) o (chain xs q)
  set_last xs y none is q = grind (arith, common_steps, first_append, or_skip, chain_key, option_or_none)

  pub unique_last : (xs : List A) (y : A) → chain xs k ≡ None → ((q : K) → at y q ≡ cond (same q k) o None) → NoKeyTwice at xs
      → NoKeyTwice at (xs ++ y ∷ [])
  unique_last [] y none is u = (λ q i. refl, tt)
  unique_last (x ∷ xs) y none is u =
      let parts : (at x k ≡ None) × (chain xs k ≡ None) = first_of_two (at x k) (chain xs k) none in (
        λ q i. set_last xs y parts.1 is q
            ∙ elim (same q k) as (λ c. same q k ≡ c → cond c o (chain xs q) ≡ None) [
              | true ↦ λ t. absurd (some_not_none (at x q) i (at_key q x parts.0 t))
              | false ↦ λ t. u.0 q i
            ] refl,
        unique_last xs y parts.1 is u.1,
      )
