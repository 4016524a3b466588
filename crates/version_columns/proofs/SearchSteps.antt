-- A text at the beginning of a name, and one name more that is looked at.
use Rattle.std.proofs.Common.{◌≡◌, ℕ, ◌+◌, ◌-◌, ◌≤◌, List, [], ◌∷◌, ◌++◌, Bool, ◌||◌, true, false, cond, zero, suc, set, length, Some}
use Rattle.std.proofs.Common.{sym, ap, ◌∙◌, arith, add-zero}
use Rattle.std.proofs.lemmas.Option.{get_or_from_slice_get}
use Rattle.std.specs.{Prelude.{slice_index_or, nat_eq}, List.{slice_get, starts_with}}
use Rattle.version_columns.specs.{Rows.with_values, Searches.{has_text, numbers_with}}
use Rattle.version_columns.proofs.Columns.{with_values-append}

-- what a name begins with is in it
pub begins_with : (text name : List ℕ) → starts_with nat_eq name text ≡ true → has_text text name ≡ true
begins_with text [] begins = begins
begins_with text (byte ∷ rest) begins = ap (λ b. b || has_text text rest) begins

-- the numbers with the text of one name more
next_number : (text : List ℕ) (names : List (List ℕ)) (first n : ℕ)
    → numbers_with text names first (suc n)
    ≡ numbers_with text names first n ++ cond (has_text text (slice_index_or names (first + n) [])) ((first + n) ∷ []) []
next_number text names first zero =
    ap (λ k. cond (has_text text (slice_index_or names k [])) (k ∷ []) []) (sym (add-zero first))
next_number text names first (suc n) =
    let same : (first + 1) + n ≡ first + suc n = omega arith in
    let last : ℕ → List ℕ = λ k. cond (has_text text (slice_index_or names k [])) (k ∷ []) [] in
    let rest : numbers_with text names (first + 1) (suc n) ≡ numbers_with text names (first + 1) n ++ last (first + suc n) =
    next_number text names (first + 1) n ∙ ap (λ k. numbers_with text names (first + 1) n ++ last k) same in
    elim (has_text text (slice_index_or names first [])) as (λ b.
    cond b (first ∷ numbers_with text names (first + 1) (suc n)) (numbers_with text names (first + 1) (suc n))
    ≡ cond b (first ∷ numbers_with text names (first + 1) n) (numbers_with text names (first + 1) n) ++ last (first + suc n)) [
      | true ↦ ap (λ ks. first ∷ ks) rest
      | false ↦ rest
    ]

-- whether the next name has the text is known
pub one_more_looked : (text : List ℕ) (names : List (List ℕ)) (first next : ℕ) (name : List ℕ) (has : Bool) → first ≤ next
    → slice_get names next ≡ Some name → has ≡ has_text text name
    → numbers_with text names first (next + 1 - first) ≡ numbers_with text names first (next - first) ++ cond has (next ∷ []) []
one_more_looked text names first next name has le at is =
    let n = next - first in
    let more : next + 1 - first ≡ suc n = omega arith in
    let here : first + n ≡ next = omega arith in
    let same : slice_index_or names next [] ≡ name = get_or_from_slice_get names next name [] at in
    ap (numbers_with text names first) more ∙ next_number text names first n
    ∙ ap (λ k. numbers_with text names first n ++ cond (has_text text (slice_index_or names k [])) (k ∷ []) []) here
    ∙ ap (λ b. numbers_with text names first n ++ cond b (next ∷ []) []) (ap (has_text text) same ∙ sym is)

-- a number is put behind those that stand there
pub number_behind : (xs column old new : List ℕ) (x count : ℕ) → old ≡ with_values 0 xs column → count ≡ length xs
    → new ≡ set old count x → new ≡ with_values 0 (xs ++ x ∷ []) column
number_behind xs column old new x count so_far long put =
    let at : count ≡ 0 + length xs = omega arith in
    put ∙ ap (λ ys. set ys count x) so_far ∙ ap (λ k. set (with_values 0 xs column) k x) at ∙ sym (with_values-append 0 xs (x ∷ []) column)
