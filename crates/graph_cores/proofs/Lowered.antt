-- What taking a neighbor from each listed vertex does.
use Rattle.std.proofs.Common.{◌≡◌, ℕ, ◌+◌, ◌-◌, ◌<◌, ◌≤◌, arith, refl, sym, ap, subst, inl, inr, List, [], ◌∷◌, ◌++◌, length}
use Rattle.std.proofs.{Common.cond, lemmas.Bool.{cases_eq, Decides.Decides-eqb}}
use Rattle.std.proofs.lemmas.List.Elements.{All-tail, Contains-push}
use Rattle.std.specs.{Prelude.{◌==◌, All, sum}, List.Contains}
use Rattle.std.proofs.lemmas.Grind.{common_steps}
use Rattle.graph_types.specs.Arcs.{at}
use Rattle.graph_types.proofs.{Elements.{pushed_keeps, pushed_all}, Times.times}
use Rattle.graph_types.proofs.Lowering.{with_less, with_pushed, rest_within, less_at, less_other, pushed_low}
use Rattle.graph_cores.specs.Peel.{lowered}

pub lowered_at : (k : ℕ) (ws ds st : List ℕ) (x : ℕ) → All (λ w. w < length ds) ws
    → at (lowered k ws ds st).0 x ≡ at ds x - times x ws
lowered_at k [] ds st x h = omega arith
lowered_at k (w ∷ ws) ds st x h =
    grind (arith, common_steps, lowered_at k ws (with_less ds w) (with_pushed k ds st w) x (rest_within ds w ws h))

pub lowered_keeps : (k : ℕ) (ws ds st : List ℕ) (x : ℕ) → Contains st x → Contains (lowered k ws ds st).1 x
lowered_keeps k [] ds st x c = c
lowered_keeps k (w ∷ ws) ds st x c = lowered_keeps k ws (with_less ds w) (with_pushed k ds st w) x
    (pushed_keeps (at ds w == k + 1) st w x c)

pub lowered_pushes : (k : ℕ) (ws ds st : List ℕ) (x : ℕ) → All (λ w. w < length ds) ws → k + 1 ≤ at ds x
    → at (lowered k ws ds st).0 x ≤ k → Contains (lowered k ws ds st).1 x
lowered_pushes k [] ds st x h many few = absurd (omega arith)
lowered_pushes k (w ∷ ws) ds st x h many few =
    let lt : w < length ds = h 0 0 (omega arith) in
    let within = rest_within ds w ws h in
    elim (cases_eq w x) [
      | inl e ↦ elim (cases_eq (at ds w) (k + 1)) [
        | inl full ↦
            let now : with_pushed k ds st w ≡ st ++ w ∷ [] =
            ap (λ b. cond b (st ++ w ∷ []) st) ((Decides-eqb (at ds w) (k + 1)).1 full) in
            lowered_keeps k ws (with_less ds w) (with_pushed k ds st w) x
            (subst (λ xs. Contains xs x) (sym now) (subst (Contains (st ++ w ∷ [])) e (Contains-push st w)))
        | inr ne ↦
            let a = less_at ds w x lt e in
            let same = ap (at ds) e in
            lowered_pushes k ws (with_less ds w) (with_pushed k ds st w) x within (omega arith) few
      ]
      | inr ne ↦
          let a = less_other ds w x ne in
          lowered_pushes k ws (with_less ds w) (with_pushed k ds st w) x within (omega arith) few
    ]

pub lowered_low : (k : ℕ) (ws ds st : List ℕ) → All (λ w. w < length ds) ws → All (λ y. at ds y ≤ k) st
    → All (λ y. at (lowered k ws ds st).0 y ≤ k) (lowered k ws ds st).1
lowered_low k [] ds st h low = low
lowered_low k (w ∷ ws) ds st h low =
    lowered_low k ws (with_less ds w) (with_pushed k ds st w) (rest_within ds w ws h)
    (pushed_low (at ds w == k + 1) k ds st w (h 0 0 (omega arith)) refl low)

pub lowered_all : (P : ℕ → Type 0) (k : ℕ) (ws ds st : List ℕ) → All P ws → All P st → All P (lowered k ws ds st).1
lowered_all P k [] ds st new all = all
lowered_all P k (w ∷ ws) ds st new all = lowered_all P k ws (with_less ds w) (with_pushed k ds st w) (All-tail P w ws new)
    (pushed_all P (at ds w == k + 1) st w (new 0 0 (omega arith)) all)

-- each vertex that is pushed has lost a neighbor
pub lowered_sum : (k : ℕ) (ws ds st : List ℕ) → All (λ w. w < length ds) ws
    → sum (lowered k ws ds st).0 + length (lowered k ws ds st).1 ≤ sum ds + length st
lowered_sum k [] ds st h = omega arith
lowered_sum k (w ∷ ws) ds st h =
    grind (arith, common_steps, lowered_sum k ws (with_less ds w) (with_pushed k ds st w) (rest_within ds w ws h))
