-- How many of a list are alive once one of them is taken out.
use Rattle.std.proofs.Common.{◌≡◌, ℕ, ◌+◌, ◌<◌, arith, refl, List, [], ◌∷◌, length, set, true, false, Bool}
use Rattle.std.{specs.Prelude.count_by, proofs.lemmas.Grind.common_steps}
use Rattle.graph_types.proofs.Times.{times}
use Rattle.graph_cores.specs.Peel.{is_alive}

-- v is taken out
pub count_taken : (alive : List Bool) (v : ℕ) (xs : List ℕ) → v < length alive → is_alive alive v ≡ true
    → count_by (is_alive (set alive v false)) xs + times v xs ≡ count_by (is_alive alive) xs
count_taken alive v [] lt on = refl
count_taken alive v (y ∷ ys) lt on = grind (arith, common_steps, count_taken alive v ys lt on)
