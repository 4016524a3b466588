-- A number of a list that is made one less, and a list that grows by a number where a test passes.
use Rattle.std.proofs.Common.{◌≡◌, ℕ, suc, ◌+◌, ◌-◌, ◌<◌, ◌≤◌, Bool, true, false, cond, List, [], ◌∷◌, ◌++◌, length, set, sym}
use Rattle.std.proofs.{Common.arith, lemmas.{Bool.{cases_eq, Decides.Decides-eqb}, Grind.common_steps}}
use Rattle.std.proofs.lemmas.List.{get_or-set_same, get_or-set_other, length-set, Elements.{All-push, All-weaker}}
use Rattle.std.specs.Prelude.{◌==◌, All}
use Rattle.graph_types.specs.Arcs.{at}

abbrev pub with_less : List ℕ → ℕ → List ℕ
with_less ds w = set ds w (at ds w - 1)

abbrev pub with_pushed : ℕ → List ℕ → List ℕ → ℕ → List ℕ
with_pushed k ds st w = cond (at ds w == k + 1) (st ++ w ∷ []) st

pub less_at : (ds : List ℕ) (w x : ℕ) → w < length ds → w ≡ x → at (with_less ds w) x ≡ at ds x - 1
less_at ds w x lt e = grind (arith, common_steps, get_or-set_same)

pub less_other : (ds : List ℕ) (w x : ℕ) → (w ≡ x → ⊥) → at (with_less ds w) x ≡ at ds x
less_other ds w x ne = get_or-set_other ds w x (at ds w - 1) 0 (λ e. ne (sym e))

less_low : (ds : List ℕ) (w x : ℕ) → w < length ds → at (with_less ds w) x ≤ at ds x
less_low ds w x lt = grind (arith, common_steps, cases_eq, less_at, less_other)

pub rest_within : (ds : List ℕ) (w : ℕ) (ws : List ℕ) → All (λ x. x < length ds) (w ∷ ws)
    → All (λ x. x < length (with_less ds w)) ws
rest_within ds w ws h = λ i d l. let a = h (suc i) d (omega arith) in let long = length-set ds w (at ds w - 1) in omega arith

pub pushed_low : (b : Bool) (k : ℕ) (ds st : List ℕ) (w : ℕ) → w < length ds → (at ds w == k + 1) ≡ b → All (λ y. at ds y ≤ k) st
    → All (λ y. at (with_less ds w) y ≤ k) (cond b (st ++ w ∷ []) st)
pushed_low true k ds st w lt e low = grind (arith, common_steps, All-push, All-weaker, less_low, Decides-eqb, less_at)
pushed_low false k ds st w lt e low = grind (arith, common_steps, All-weaker, less_low)
