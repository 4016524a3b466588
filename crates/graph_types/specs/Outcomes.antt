-- Outcomes of one operation, or of each of some, over parts of the rows, taken together.
use Rattle.std.specs.Prelude.{ℕ, ◌+◌, ◌%◌, ◌^◌, List, [], ◌∷◌, get_or, set}
use Rattle.graph_types.specs.declared.batches.Outcome.{Outcome, TheVariants.{Inserted, Updated, Removed, Absent}}
use Rattle.graph_types.specs.declared.batches.Outcome.TheVariants.{Overflow, Expired}

-- what is told of one operation over two lists of sources, taken together: an expiry's counts are added, and of all else
-- the second stands
abbrev pub together : Outcome → Outcome → Outcome
together (Expired a) (Expired b) = Expired (a + b)
together other b = b

-- the same for each operation
abbrev pub joined : List Outcome → List Outcome → List Outcome
joined (x ∷ xs) (y ∷ ys) = together x y ∷ joined xs ys
joined _ _ = []

-- an outcome as the program tells it: it counts edges modulo 2 ^ 64
abbrev pub told : Outcome → Outcome
told Inserted = Inserted
told Updated = Updated
told Removed = Removed
told Absent = Absent
told Overflow = Overflow
told (Expired count) = Expired (count % 2 ^ 64)

-- outcomes put together with those that stand at their places of the batch
abbrev pub written : List (ℕ × Outcome) → List Outcome → List Outcome
written [] xs = xs
written (p ∷ ps) xs = written ps (set xs p.0 (told (together (get_or xs p.0 Absent) p.1)))

-- how many edges an outcome says that an expiry took away
abbrev pub expired_in : Outcome → ℕ
expired_in (Expired count) = count
expired_in _ = 0
