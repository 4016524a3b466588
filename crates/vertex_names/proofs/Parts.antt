-- Parts of an index, and shelves of parts.
use Rattle.std.proofs.Common.{◌≡◌, ◌≢◌, ℕ, sym, ap, ◌∙◌, Option, Some}
use Rattle.std.proofs.{Common.{if◌then◌else◌, nat_eq}, lemmas.Bool.ne_eqb}

-- a number that is put at a hash, as what then stands at any hash
abbrev pub with_number : ℕ → ℕ → ℕ → Option ℕ → Option ℕ
with_number hash number q found = if nat_eq hash q then Some number else found

pub with_number-other : (at : ℕ → ℕ) (hash number place : ℕ) → at hash ≡ place → (q : ℕ) (found : Option ℕ) → at q ≢ place
    → with_number hash number q found ≡ found
with_number-other at hash number place is q found other =
    ap (λ b. if b then Some number else found) (ne_eqb hash q (λ same. other (ap at (sym same) ∙ is)))
