-- Numbers in lists, and blocks that are picked by their numbers.
use Rattle.std.proofs.Common.{◌≡◌, ◌≢◌, ℕ, zero, suc, ◌<◌, ◌==◌, Bool, true, false, ◌||◌, List, [], ◌∷◌, length, get_or, refl}
use Rattle.std.proofs.{Common.{sym, ap, ◌∙◌, arith}, lemmas.{Grind.common_steps, List.Elements.All-cons}}
use Rattle.std.{proofs.lemmas.Bool.{eq-eqb, or_right}, specs.Prelude.{if◌then◌else◌, All, AllPairs, filter}}
use Rattle.graph_types.proofs.Counts.{apart_tail}
use Rattle.edge_block.specs.Slots.{BlockView}
use Rattle.graph_version.specs.Rows.{numbers_of}
use Rattle.block_reclamation.specs.Status.{is_among}
use Rattle.graph_types.proofs.{Elements.apart_head, Numbers.apart_test}
use Rattle.epoch_core.specs.Blocks.{all_differ}
use Rattle.epoch_core.proofs.BlockSteps.{differ_head, differ_tail}

-- Numbers that differ

not_in : (n : ℕ) (ns : List ℕ) → ((k : ℕ) → k < length ns → n ≢ get_or ns k 0) → is_among n ns ≡ false
not_in n [] apart = refl
not_in n (m ∷ ns) apart =
    let rest : is_among n ns ≡ false = not_in n ns (λ k h. apart (suc k) (omega arith)) in
    let here : (m == n) ≡ false = apart_test m n (λ e. apart 0 (omega arith) (sym e)) in
    rw (here, rest) refl

pub differ_from : (ns : List ℕ) → AllPairs ◌≢◌ ns → all_differ ns ≡ true
differ_from [] apart = refl
differ_from (n ∷ ns) apart =
    let none : is_among n ns ≡ false = not_in n ns (apart_head n ns apart) in
    rw none (differ_from ns (apart_tail n ns apart))

-- Blocks

-- the number of a block that is listed is listed
pub number_in : (bs : List BlockView) (b : BlockView) (k : ℕ) → k < length bs → get_or bs k b ≡ b
    → is_among b.number (numbers_of bs) ≡ true
number_in [] b k h at = absurd (omega arith)
number_in (c ∷ cs) b zero h at = let same : (c.number == b.number) ≡ true =
    eq-eqb c.number b.number (ap (λ x. x.number) at) in rw same refl
number_in (c ∷ cs) b (suc k) h at = or_right (c.number == b.number) (is_among b.number (numbers_of cs))
    (number_in cs b k (omega arith) at)

-- Blocks that are picked by number

abbrev pub picked : (ℕ → Bool) → List BlockView → List BlockView
picked p bs = filter (λ b. p b.number) bs

in_cond : (t : Bool) (b : BlockView) (bs : List BlockView) (n : ℕ)
    → is_among n (numbers_of (if t then b ∷ bs else bs)) ≡ (if t then (b.number == n) || is_among n (numbers_of bs) else is_among n
    (numbers_of bs))
in_cond t b bs n = grind (arith, common_steps)

picks : (p : ℕ → Bool) (m n : ℕ) (rest t u : Bool) → p m ≡ t → (m == n) ≡ u → (rest ≡ true → p n ≡ true)
    → (if t then u || rest else rest) ≡ true → p n ≡ true
picks p m n rest t u e f more is = grind (arith, common_steps)

pub in_picked : (p : ℕ → Bool) (bs : List BlockView) (n : ℕ) → is_among n (numbers_of (picked p bs)) ≡ true → p n ≡ true
in_picked p [] n is = cc
in_picked p (b ∷ bs) n is =
    picks p b.number n _ (p b.number) (b.number == n) refl refl (in_picked p bs n) (sym (in_cond (p b.number) b (picked p bs) n)
    ∙ is)

picked_by : (p : ℕ → Bool) (m n : ℕ) (rest more t u : Bool) → p m ≡ t → (m == n) ≡ u → p n ≡ true → (more ≡ true → rest ≡ true)
    → (u || more) ≡ true → (if t then u || rest else rest) ≡ true
picked_by p m n rest more t u e f pass h is = grind (arith, common_steps)

pub picked_in : (p : ℕ → Bool) (bs : List BlockView) (n : ℕ) → p n ≡ true → is_among n (numbers_of bs) ≡ true
    → is_among n (numbers_of (picked p bs)) ≡ true
picked_in p [] n pass is = is
picked_in p (b ∷ bs) n pass is =
    in_cond (p b.number) b (picked p bs) n
    ∙ picked_by p b.number n _ _ (p b.number) (b.number == n) refl refl pass (picked_in p bs n pass) is

none_of : (t u rest more : Bool) → (more ≡ false → rest ≡ false) → (u || more) ≡ false → (if t then u || rest else rest) ≡ false
none_of t u rest more h is = grind (arith, common_steps)

not_picked : (p : ℕ → Bool) (bs : List BlockView) (n : ℕ) → is_among n (numbers_of bs) ≡ false
    → is_among n (numbers_of (picked p bs)) ≡ false
not_picked p [] n is = refl
not_picked p (b ∷ bs) n is = in_cond (p b.number) b (picked p bs) n
    ∙ none_of (p b.number) (b.number == n) _ _ (not_picked p bs n) is

-- those picked are different where all are
pub picked_apart : (p : ℕ → Bool) (bs : List BlockView) → all_differ (numbers_of bs) ≡ true
    → all_differ (numbers_of (picked p bs)) ≡ true
picked_apart p [] is = refl
picked_apart p (b ∷ bs) is = elim (p b.number) as (λ t. all_differ (numbers_of (if t then b ∷ picked p bs else picked p bs))
    ≡ true) [
      | true ↦ rw (not_picked p bs b.number (differ_head b.number (numbers_of bs) is))
          (picked_apart p bs (differ_tail b.number (numbers_of bs) is))
      | false ↦ picked_apart p bs (differ_tail b.number (numbers_of bs) is)
    ]

-- each block picked passes
pub picked_all : (p : ℕ → Bool) (bs : List BlockView) → All (λ b. p b.number ≡ true) (picked p bs)
picked_all p [] = λ k d h. absurd (omega arith)
picked_all p (b ∷ bs) = elim (p b.number) as (λ t. p b.number ≡ t
    → All (λ x. p x.number ≡ true) (if t then b ∷ picked p bs else picked p bs)) [
      | true ↦ λ e. All-cons (λ x. p x.number ≡ true) b (picked p bs) e (picked_all p bs)
      | false ↦ λ e. picked_all p bs
    ] refl
