-- The sums over readers each of which has compared 80 answers, and found none wrong.
use Rattle.std.proofs.{Common.{◌≡◌, suc, ◌*◌, List, [], ◌∷◌, length, refl, arith}, lemmas.List.Sums.sum_by-cons}
use Rattle.std.specs.Prelude.{All, sum_by}
use Rattle.store_drive.specs.declared.tally.Tally.{Tally}

pub right_sums : (xs : List Tally) → All (λ t. (t.checked ≡ 80) × (t.wrong ≡ 0)) xs
    → (sum_by (λ (t : Tally). t.checked) xs ≡ 80 * length xs) × (sum_by (λ (t : Tally). t.wrong) xs ≡ 0)
right_sums [] all = (refl, refl)
right_sums (x ∷ xs) all =
    let first = all 0 x (omega arith) in
    let rest = right_sums xs (λ k d lt. all (suc k) d (omega (arith, lt))) in (
      omega (arith, sum_by-cons (λ (t : Tally). t.checked) x xs, first.0, rest.0),
      omega (arith, sum_by-cons (λ (t : Tally). t.wrong) x xs, first.1, rest.1),
    )
