-- Rows that took the places of others.
use Rattle.std.proofs.Common.{◌≡◌, ℕ, ◌≤◌, true, false, cond, List, [], ◌∷◌, ◌++◌, map, ◌==◌, All, flat_map, refl, sym, ap, ap₂}
use Rattle.std.proofs.{Common.{subst, ◌∙◌, arith}, lemmas.{Bool.{ne_eqb, eqb-false, eqb-true, eq-eqb}, Grind.common_steps}}
use Rattle.std.proofs.lemmas.List.Elements.{All-tail, All-head}
use Rattle.graph_types.proofs.{Sums.count_more, Times.times}
use Rattle.edge_block.specs.Slots.{BlockView}
use Rattle.graph_version.specs.Drafts.{row_among}

abbrev pub sources_of : List (ℕ × List BlockView) → List ℕ
sources_of rows = map (λ r. r.0) rows

-- a source without a row in the list comes with none of the list's rows
times_without : (source : ℕ) (r : ℕ × List BlockView) (rows : List (ℕ × List BlockView)) → (source == r.0) ≡ false
    → times source (sources_of rows) ≡ 0 → times source (sources_of (r ∷ rows)) ≡ 0
times_without source r rows other none = grind (arith, common_steps, count_more, ne_eqb, eqb-false)

-- what is true of each row in the list, and of the source's row before where the list has none, is true of the source's row
pub among_is : (Is : ℕ → List BlockView → Type 0) (source : ℕ) (rows : List (ℕ × List BlockView)) (row : List BlockView)
    → All (λ r. Is r.0 r.1) rows → (times source (sources_of rows) ≡ 0 → Is source row) → Is source (row_among rows source row)
among_is Is source [] row all base = base refl
among_is Is source (r ∷ rows) row all base =
    among_is Is source rows (cond (source == r.0) r.1 row) (All-tail (λ (r : ℕ × List BlockView). Is r.0 r.1) r rows all)
    (λ none. elim (source == r.0) as (λ b. source == r.0 ≡ b → Is source (cond b r.1 row)) [
      | true ↦ λ t. subst (λ s. Is s r.1) (sym (eqb-true source r.0 t))
          (All-head (λ (r : ℕ × List BlockView). Is r.0 r.1) r rows all)
      | false ↦ λ t. base (times_without source r rows t none)
    ] refl)

pub among_none : (rows : List (ℕ × List BlockView)) (source : ℕ) (row : List BlockView) → times source (sources_of rows) ≡ 0
    → row_among rows source row ≡ row
among_none [] source row none = refl
among_none (r ∷ rows) source row none =
    let c = count_more (λ x. x == source) r.0 (sources_of rows) in
    elim (source == r.0) as (λ b. source == r.0 ≡ b → row_among rows source (cond b r.1 row) ≡ row) [
      | true ↦ λ t.
          let same : (let k : ℕ = cond (r.0 == source) 1 0 in k) ≡ 1 = ap (λ n. cond (r.0 == n) 1 0) (eqb-true source r.0 t)
          ∙ ap (λ b. cond b 1 0) (eq-eqb r.0 r.0 refl) in
          absurd (omega (arith, c, none, same))
      | false ↦ λ t. among_none rows source row (omega (arith, c, none))
    ] refl

-- the rows of different sources are those of the list
pub among_all : (rows : List (ℕ × List BlockView)) (before : ℕ → List BlockView) → ((m : ℕ) → times m (sources_of rows) ≤ 1)
    → flat_map (λ s. row_among rows s (before s)) (sources_of rows) ≡ flat_map (λ r. r.1) rows
among_all [] before once = refl
among_all (r ∷ rows) before once =
    let c = count_more (λ x. x == r.0) r.0 (sources_of rows) in
    let here : (let k : ℕ = cond (r.0 == r.0) 1 0 in k) ≡ 1 = ap (λ b. cond b 1 0) (eq-eqb r.0 r.0 refl) in
    let none : times r.0 (sources_of rows) ≡ 0 = omega (arith, c, here, once r.0) in
    ap₂ (λ a b. a ++ b)
    (ap (λ b. row_among rows r.0 (cond b r.1 (before r.0))) (eq-eqb r.0 r.0 refl) ∙ among_none rows r.0 r.1 none)
    (among_all rows (λ s. cond (s == r.0) r.1 (before s))
    (λ m. let more = count_more (λ x. x == m) r.0 (sources_of rows) in omega (arith, more, once m)))
