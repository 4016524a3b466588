-- Pairs in the order of their firsts, and what stands at a hash among them.
use Rattle.std.specs.{Prelude.{◌≡◌, ◌<◌, ◌≤◌, ◌-◌, ℕ, suc, List, [], ◌∷◌, length, get_or, nat_eq, map, if◌then◌else◌}, Map.lookup}
use Rattle.std.specs.declared.option.Option.{Option}
use lib.Dec.{leb}

abbrev pub firsts : {X : Type 0} → List (ℕ × X) → List ℕ
firsts pairs = map (λ p. p.0) pairs

abbrev pub IsRising : List ℕ → Type 0
IsRising ns = (i j : ℕ) → i < j → j < length ns → get_or ns i 0 < get_or ns j 0

-- the place of the last number that isn't above n; the first place also where all are
abbrev pub last_place : List ℕ → ℕ → ℕ
last_place (x ∷ y ∷ rest) n = if leb y n then suc (last_place (y ∷ rest) n) else 0
last_place _ n = 0

-- bounds of that place: it is at the first or behind it, and before the second, where there is any
pub record Bounds (ns : List ℕ) (n low high : ℕ) : Type 0 where
  pub from : low ≤ last_place ns n
  pub before : last_place ns n ≤ high - 1
  pub order : low ≤ high

-- the pairs' firsts: the one at a place is the hash
pub record IsFoundAt (entries : List (ℕ × ℕ)) (hash place : ℕ) : Type 0 where
  pub within : place < length entries
  pub same : get_or (firsts entries) place 0 ≡ hash

-- the hash would go at a place: lower ones before it, and higher ones from it on
pub record IsGap (entries : List (ℕ × ℕ)) (hash place : ℕ) : Type 0 where
  pub within : place ≤ length entries
  pub before : (j : ℕ) → j < place → get_or (firsts entries) j 0 < hash
  pub behind : (j : ℕ) → place ≤ j → j < length entries → hash < get_or (firsts entries) j 0

-- what stands at a hash in a part of which each piece has its entries behind its lowest hash
abbrev pub found_in : List (ℕ × List (ℕ × ℕ)) → ℕ → Option ℕ
found_in pieces hash = let piece = get_or pieces (last_place (firsts pieces) hash) (0, []) in lookup (nat_eq hash) piece.1
