-- Whether an element of a list passes a test, and the first that does.
use Rattle.std.proofs.Common.{◌≡◌, ℕ, zero, suc, ◌+◌, ◌<◌, Bool, true, false, cond, not, ◌||◌, eqb, List, [], ◌∷◌, map, length}
use Rattle.std.proofs.Common.{get_or, take, replicate, nat_eq, ◌==◌, All, count_by, refl, sym, ap, ap₂, subst, arith}
use Rattle.std.proofs.lemmas.Bool.{or_parts, lt-ltb, false_from_ne_true, le-ltb, false≢true, true≢false, eqb-true, eqb-false}
use Rattle.std.proofs.lemmas.{Bool.Decides.nat_tests, Grind.common_steps, List.Elements.{All-head, All-tail}}
use Rattle.std.proofs.lemmas.List.{Folds.{list_any_at, list_all_more}, Quantifiers.position-Some}
use Rattle.std.proofs.lemmas.List.Sums.{position_or_len_is, sum_by-cons}
use Rattle.std.specs.{Char.is_ascii_digit, List.{list_any, position, position_or_len, list_all}, Prelude.{filter, nat_lt}}
use Rattle.std.specs.declared.option.Option.{Option, TheVariants.{Some, None}}
use Rattle.graph_types.specs.declared.ids.VertexId.{VertexId}

pub any_mapped : {A B : Type 0} (p : B → Bool) (f : A → B) (xs : List A) → list_any p (map f xs) ≡ list_any (λ x. p (f x)) xs
any_mapped p f [] = refl
any_mapped p f (x ∷ xs) = ap (λ b. p (f x) || b) (any_mapped p f xs)

pub any_fewer : {X : Type 0} (p q : X → Bool) → ((x : X) → q x ≡ false → p x ≡ false) → (xs : List X)
    → list_any q xs ≡ false → list_any p xs ≡ false
any_fewer p q fewer [] none = refl
any_fewer p q fewer (x ∷ xs) none =
    let both = or_parts (q x) (list_any q xs) none in
    ap₂ (λ a b. a || b) (fewer x both.0) (any_fewer p q fewer xs both.1)

pub kept : {X : Type 0} (p : X → Bool) (x : X) (xs ys : List X) → p x ≡ true → filter p xs ≡ ys → filter p (x ∷ xs) ≡ x ∷ ys
kept p x xs ys is rest = rw is (ap (λ l. x ∷ l) rest)

pub position_is : {A : Type 0} (p : A → Bool) (xs : List A) (i : ℕ) (d : A) → i < length xs → p (get_or xs i d) ≡ true
    → ((k : ℕ) → k < i → p (get_or xs k d) ≡ false) → position p xs ≡ Some i
position_is p xs i d lt here before = grind (arith, common_steps, position_or_len_is, lt-ltb)

pub position_none : {A : Type 0} (p : A → Bool) (xs : List A)
    → ((i : ℕ) (d : A) → i < length xs → p (get_or xs i d) ≡ true → ⊥) → position p xs ≡ None
position_none p [] none = refl
position_none p (x ∷ xs) none =
    let e : position_or_len p (x ∷ xs) ≡ length (x ∷ xs) =
    position_or_len_is p (x ∷ xs) (length (x ∷ xs)) x (omega arith)
    (λ k lt. false_from_ne_true (p (get_or (x ∷ xs) k x)) (none k x lt)) (λ lt. absurd (omega arith)) in
    rw (e, le-ltb (length (x ∷ xs)) (length (x ∷ xs)) (omega arith)) refl

pub list_any-map : {A B : Type 0} (f : A → B) (q : B → Bool) (xs : List A) → list_any q (map f xs) ≡ list_any (λ x. q (f x)) xs
list_any-map f q [] = refl
list_any-map f q (x ∷ xs) = ap (λ b. q (f x) || b) (list_any-map f q xs)

first_lt : {A : Type 0} (p : A → Bool) (xs : List A) → list_any p xs ≡ true → position_or_len p xs < length xs
first_lt p [] h = absurd (false≢true h)
first_lt p (x ∷ xs) h =
    elim (p x) as (λ b. (b || list_any p xs) ≡ true → cond (not b) (1 + position_or_len p xs) 0 < suc (length xs)) [
      | true ↦ λ _. omega arith
      | false ↦ λ rest. let lt = first_lt p xs rest in omega arith
    ] h

pub none_passes : {A : Type 0} (p : A → Bool) (xs : List A) → position p xs ≡ None → list_any p xs ≡ false
none_passes p xs h = grind (arith, common_steps, first_lt, nat_tests)

pub one_passes : {A : Type 0} (p : A → Bool) (xs : List A) (i : ℕ) (d : A) → position p xs ≡ Some i → list_any p xs ≡ true
one_passes p xs i d h = let at = position-Some p xs i d h in list_any_at p xs i d at.0 at.1

-- an expiry leaves a row without old edges as it is
pub none_any : {A : Type 0} (p : A → Bool) (xs : List A) → count_by p xs ≡ 0 → list_any p xs ≡ false
none_any p [] e = refl
none_any p (x ∷ xs) e =
    let a = sum_by-cons (λ x. cond (p x) 1 0) x xs in
    elim (p x) as (λ b. p x ≡ b → (b || list_any p xs) ≡ false) [
      | true ↦ λ t.
          let one : (let n : ℕ = cond (p x) 1 0 in n) ≡ 1 = ap (λ b. let n : ℕ = cond b 1 0 in n) t in
          absurd (omega arith)
      | false ↦ λ t. none_any p xs (omega arith)
    ] refl

pub listed_is : (P : ℕ → Type 0) (xs : List ℕ) → All P xs → (s : ℕ) → list_any (nat_eq s) xs ≡ true → P s
listed_is P [] all s listed = absurd (true≢false (sym listed))
listed_is P (x ∷ xs) all s listed = elim (s == x) as (λ b. s == x ≡ b → (b || list_any (nat_eq s) xs) ≡ true → P s) [
  | true ↦ λ same _. subst P (sym (eqb-true s x same)) (All-head P x xs all)
  | false ↦ λ _ rest. listed_is P xs (All-tail P x xs all) s rest
] refl listed

pub absent : (xs : List ℕ) (s : ℕ) → list_any (nat_eq s) xs ≡ false → (i d : ℕ) → i < length xs → get_or xs i d ≡ s → ⊥
absent [] s none i d lt e = absurd (omega arith)
absent (x ∷ xs) s none zero d lt e = grind (arith, common_steps, true≢false, eqb-false)
absent (x ∷ xs) s none (suc i) d lt e = grind (arith, common_steps, true≢false)

pub listed_all : (P : ℕ → Type 0) (xs : List ℕ) (q : ℕ) → All P xs → list_any (eqb q) xs ≡ true → P q
listed_all P [] q all listed = absurd (true≢false (sym listed))
listed_all P (x ∷ xs) q all listed =
    elim (eqb q x) as (λ b. eqb q x ≡ b → (b || list_any (eqb q) xs) ≡ true → P q) [
      | true ↦ λ same _. subst P (sym (eqb-true q x same)) (All-head P x xs all)
      | false ↦ λ _ rest. listed_all P xs q (All-tail P x xs all) rest
    ] refl listed

pub any_first : (p : VertexId → Bool) (xs : List VertexId) → list_any p xs ≡ nat_lt (position_or_len p xs) (length xs)
any_first p [] = refl
any_first p (x ∷ xs) = let before = any_first p xs in grind arith

pub all_from : {A : Type 0} (p : A → Bool) (xs : List A) → All (λ x. p x ≡ true) xs → list_all p xs ≡ true
all_from p [] all = refl
all_from p (x ∷ xs) all = rw (All-head (λ y. p y ≡ true) x xs all) (all_from p xs (All-tail (λ y. p y ≡ true) x xs all))

pub any_none : (p : Option ℕ → Bool) → p None ≡ false → (n : ℕ) → list_any p (replicate n None) ≡ false
any_none p none zero = refl
any_none p none (suc n) = rw (none, any_none p none n) refl

pub digits_more : (text : List ℕ) (i : ℕ) → i < length text → list_all is_ascii_digit (take i text) ≡ true
    → is_ascii_digit (get_or text i 0) ≡ true
    → list_all is_ascii_digit (take (i + 1) text) ≡ true
digits_more text i within all next = rw (list_all_more is_ascii_digit text i 0 within, all, next) refl
