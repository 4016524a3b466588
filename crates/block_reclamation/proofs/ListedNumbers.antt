-- Whether a number is among listed ones, and what holds of each that is.
use Rattle.std.proofs.Common.{◌≡◌, ℕ, zero, suc, ◌<◌, Bool, true, false, ◌||◌, eqb, List, [], ◌∷◌, take, ◌==◌, All, refl, ap}
use Rattle.std.proofs.{Common.{subst, arith}, lemmas.{Bool.{eq-eqb, or_right, eqb-true}, List.Elements.{All-head, All-tail}}}
use Rattle.std.specs.List.{flat_map, list_all}
use Rattle.block_reclamation.specs.Status.{is_among}

-- a function on numbers that agrees on what is listed makes the same list of pieces
pub same_pieces : {A : Type 0} (f g : ℕ → List A) (bs : List ℕ) → ((b : ℕ) → is_among b bs ≡ true → f b ≡ g b)
    → flat_map f bs ≡ flat_map g bs
same_pieces f g [] same = refl
same_pieces f g (b ∷ bs) same =
    let here : f b ≡ g b = same b (ap (λ t. t || is_among b bs) (eq-eqb b b refl)) in
    let rest : flat_map f bs ≡ flat_map g bs = same_pieces f g bs
    (λ c is. same c (elim (eqb b c) as (λ t. (t || is_among c bs) ≡ true) [ true ↦ refl | false ↦ is ])) in
    cc

pub listed_take : (n b : ℕ) (bs : List ℕ) → is_among b (take n bs) ≡ true → is_among b bs ≡ true
listed_take zero b bs is = cc
listed_take (suc n) b [] is = cc
listed_take (suc n) b (c ∷ cs) is =
    elim (eqb c b) as (λ t. (t || is_among b (take n cs)) ≡ true → (t || is_among b cs)
    ≡ true) [ true ↦ λ _. refl | false ↦ λ rest. listed_take n b cs rest ] is

-- what is listed is within the bound of the list
pub listed_within : (n b : ℕ) (bs : List ℕ) → All (λ c. c < n) bs → is_among b bs ≡ true → b < n
listed_within n b [] all is = cc
listed_within n b (c ∷ cs) all is =
    elim (eqb c b) as (λ t. eqb c b ≡ t → (t || is_among b cs) ≡ true → b < n) [
      | true ↦ λ e _. let same : c ≡ b = grind (arith, e) in subst (λ x. x < n) same (all 0 c (omega arith))
      | false ↦ λ _ rest. listed_within n b cs (λ k d h. all (suc k) d (omega arith)) rest
    ] refl is

-- a test that holds of whatever is listed
pub all_by : (p : ℕ → Bool) (ns : List ℕ) → ((m : ℕ) → is_among m ns ≡ true → p m ≡ true) → list_all p ns ≡ true
all_by p [] each = refl
all_by p (n ∷ ns) each =
    let here : (n == n) ≡ true = eq-eqb n n refl in
    let first : p n ≡ true = each n (rw here refl) in
    rw first (all_by p ns (λ m is. each m (or_right (n == m) (is_among m ns) is)))

pub listed_below : (blocks : ℕ) (ns : List ℕ) (m : ℕ) → All (λ n. n < blocks) ns → is_among m ns ≡ true → m < blocks
listed_below blocks [] m within is = cc
listed_below blocks (n ∷ ns) m within is =
    elim (n == m) as (λ t. n == m ≡ t → (t || is_among m ns) ≡ true → m < blocks) [
      | true ↦ λ e listed. (let low : n < blocks = All-head (λ k. k < blocks) n ns within in
          let same : n ≡ m = eqb-true n m e in omega arith)
      | false ↦ λ e listed. listed_below blocks ns m (All-tail (λ k. k < blocks) n ns within) listed
    ] refl is
