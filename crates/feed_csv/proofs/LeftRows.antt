-- The rows of a feed that are left, one row less.
use Rattle.std.proofs.Common.{◌≡◌, List, [], ◌∷◌, ◌++◌, append_assoc, refl, sym, ap, ◌∙◌}
use Rattle.std.specs.Prelude.{Option, None, Some}
use Rattle.feed_csv.specs.Records.{Row, TakesRecord}

-- of the records there were at first, where they are known, these were given, and the others are left
abbrev pub Leaves : Option (List Row) → List Row → Option (List Row) → Type 0
Leaves None given left = Unit {0}
Leaves (Some rows) given None = ⊥
Leaves (Some rows) given (Some rest) = rows ≡ given ++ rest

pub leaves-none : (first : Option (List Row)) → Leaves first [] first
leaves-none None = tt
leaves-none (Some rows) = refl

pub leaves-append : (first : Option (List Row)) (given : List Row) (row : Row) (left rest : Option (List Row))
    → Leaves first given left → TakesRecord left row rest → Leaves first (given ++ row ∷ []) rest
leaves-append None given row left rest leaves takes = tt
leaves-append (Some rows) given row None rest leaves takes = absurd leaves
leaves-append (Some rows) given row (Some more) None leaves takes = absurd takes
leaves-append (Some rows) given row (Some more) (Some others) leaves takes =
    leaves ∙ (ap (λ rows. given ++ rows) takes ∙ sym (append_assoc given (row ∷ []) others))
