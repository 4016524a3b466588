-- The first element of a list that passes a test.
use Rattle.std.proofs.Common.{◌≡◌, ℕ, zero, suc, ◌<◌, Bool, true, false, cond, List, [], ◌∷◌, length, get_or, set, refl, sym, ap}
use Rattle.std.proofs.{Common.{◌∙◌, arith}, lemmas.{Bool.{or_parts, true≢false}, List.Elements.{All-cons, All-head, All-tail}}}
use Rattle.std.specs.{Prelude.All, List.list_any, Option.is_some, declared.option.Option.{Option, TheVariants.{None, Some}}}
use Rattle.edge_block.specs.Slots.{first_some, at_first}
pub use Rattle.std.proofs.lemmas.List.Folds.{list_any_at}
use Rattle.graph_types.proofs.Cases.{none_or, none_by_test}

-- the first that passes stands at i
pub at_first-set : {A : Type 0} (p : A → Bool) (f : A → A) (xs : List A) (i : ℕ) (d : A) → i < length xs
    → p (get_or xs i d) ≡ true →
    ((k : ℕ) → k < i → p (get_or xs k d) ≡ false) → at_first p f xs ≡ set xs i (f (get_or xs i d))
at_first-set p f [] i d within e before = absurd (omega arith)
at_first-set p f (x ∷ xs) zero d within e before = rw e
at_first-set p f (x ∷ xs) (suc i) d within e before =
    let fails : p x ≡ false = before 0 (omega arith) in
    rw fails (ap (λ ys. x ∷ ys) (at_first-set p f xs i d (omega arith) e (λ k below. before (suc k) (omega arith))))

-- none passes
pub at_first-none : {A : Type 0} (p : A → Bool) (f : A → A) (xs : List A) → list_any p xs ≡ false → at_first p f xs ≡ xs
at_first-none p f [] none = refl
at_first-none p f (x ∷ xs) none =
    let parts : (p x ≡ false) × (list_any p xs ≡ false) = or_parts (p x) (list_any p xs) none in
    rw parts.0 (ap (λ ys. x ∷ ys) (at_first-none p f xs parts.1))

pub All-at_first : {A : Type 0} (P : A → Type 0) (p : A → Bool) (f : A → A) (xs : List A) → All P xs
    → ((x : A) → p x ≡ true → P x → P (f x)) → All P (at_first p f xs)
All-at_first P p f [] h g = h
All-at_first P p f (x ∷ xs) h g =
    elim (p x) as (λ b. p x ≡ b → All P (cond b (f x ∷ xs) (x ∷ at_first p f xs))) [
      | true ↦ λ t. All-cons P (f x) xs (g x t (All-head P x xs h)) (All-tail P x xs h)
      | false ↦ λ t. All-cons P x (at_first p f xs) (All-head P x xs h) (All-at_first P p f xs (All-tail P x xs h) g)
    ] refl

pub first_some_at : {A B : Type 0} (f : A → Option B) (xs : List A) (i : ℕ) (d : A) (y : B) → i < length xs
    → f (get_or xs i d) ≡ Some y →
    ((k : ℕ) → k < i → f (get_or xs k d) ≡ None) → first_some f xs ≡ Some y
first_some_at f [] i d y within e before = absurd (omega arith)
first_some_at f (x ∷ xs) zero d y within e before = rw e
first_some_at f (x ∷ xs) (suc i) d y within e before =
    let none : f x ≡ None = before 0 (omega arith) in
    rw none (first_some_at f xs i d y (omega arith) e (λ k below. before (suc k) (omega arith)))

pub first_some-by_any : {A B : Type 0} (f : A → Option B) (xs : List A) → list_any (λ x. is_some (f x)) xs ≡ false
    → first_some f xs ≡ None
first_some-by_any f [] none = refl
first_some-by_any f (x ∷ xs) none =
    let parts : (is_some (f x) ≡ false) × (list_any (λ y. is_some (f y)) xs ≡ false) =
    or_parts (is_some (f x)) (list_any (λ y. is_some (f y)) xs) none in
    none_or (f x) (first_some f xs) (none_by_test (f x) (λ some. true≢false (sym some ∙ parts.0)))
    (first_some-by_any f xs parts.1)
