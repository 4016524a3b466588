-- The first of a list of lists of numbers.
use Rattle.std.specs.Prelude.{ℕ, List, [], ◌∷◌}

abbrev pub first_numbers : List (List ℕ) → List ℕ
first_numbers [] = []
first_numbers (ns ∷ lists) = ns
