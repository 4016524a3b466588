-- Outcomes put together with those at their places, with one more.
use Rattle.std.proofs.Common.{◌≡◌, ℕ, ◌≤◌, List, [], ◌∷◌, ◌++◌, length, get_or, set, refl, arith}
use Rattle.std.proofs.lemmas.{List.set_past, Grind.common_steps}
use Rattle.graph_types.specs.declared.batches.Outcome.{Outcome, TheVariants.Absent}
use Rattle.graph_types.specs.Outcomes.{together}
use Rattle.graph_types.specs.Outcomes.{told, written}

pub written_more : (ps : List (ℕ × Outcome)) (p : ℕ × Outcome) (xs : List Outcome)
    → written (ps ++ p ∷ []) xs ≡ set (written ps xs) p.0 (told (together (get_or (written ps xs) p.0 Absent) p.1))
written_more [] p xs = refl
written_more (x ∷ ps) p xs = written_more ps p (set xs x.0 (told (together (get_or xs x.0 Absent) x.1)))

pub written_past : (ps : List (ℕ × Outcome)) (p : ℕ × Outcome) (xs : List Outcome) → length (written ps xs) ≤ p.0
    → written (ps ++ p ∷ []) xs ≡ written ps xs
written_past ps p xs past = grind (arith, common_steps, written_more, set_past)
