-- A name is ASCII, and so text, and short; what is no text is no name.
use Rattle.std.proofs.Common.{◌≡◌, ℕ, zero, suc, ◌<◌, ◌≤◌, Bool, true, false, List, [], ◌∷◌, length, get_or, IsTrue, rules, refl}
use Rattle.std.proofs.{Common.{sym, subst, arith}, lemmas.{Bool.{and_parts, Decides.nat_tests}, List.Folds.list_any_none}}
use Rattle.std.proofs.lemmas.{Slice.Eq.bytes_eq-Decides, Str.IsUtf8-from_ascii}
use Rattle.std.specs.{List.list_all, Prelude.{bytes_eq, All}, Str.{IsAscii, IsUtf8}}
use Rattle.graph_types.specs.{Answer.is_listed, Valid.{is_printable, is_name, is_kind_name, are_names}}

printable-lt : (byte : ℕ) → is_printable byte ≡ true → byte < 128
printable-lt byte printable = grind (arith, nat_tests)

IsAscii-printable : (bytes : List ℕ) → list_all is_printable bytes ≡ true → IsAscii bytes
IsAscii-printable [] all = λ i. omega arith
IsAscii-printable (first ∷ rest) all =
    let each = and_parts (is_printable first) (list_all is_printable rest) all in
    λ i. elim i as (λ i. get_or (first ∷ rest) i 0 < 128) [
      | zero ↦ printable-lt first each.0
      | suc i ↦
          IsAscii-printable rest each.1 i
    ]

pub is_name_text : (bytes : List ℕ) → is_name bytes ≡ true → IsUtf8 bytes
is_name_text bytes name = IsUtf8-from_ascii bytes (IsAscii-printable bytes (and_parts _ _ name).1)

pub is_kind_name_text : (bytes : List ℕ) → is_kind_name bytes ≡ true → IsUtf8 bytes
is_kind_name_text bytes kind = is_name_text bytes (and_parts _ _ kind).0

pub names_are : (kind source target : List ℕ) → IsTrue (is_kind_name kind) → IsTrue (is_name source) → IsTrue (is_name target)
    → IsTrue (are_names kind source target)
names_are kind source target one two three = search (rules, one, two, three)

-- a test that can't be true is false
pub never_true : (b : Bool) → (b ≡ true → ⊥) → b ≡ false
never_true true none = absurd (none refl)
never_true false none = refl

-- bytes that are no text are no name
pub no_text_no_name : (bytes : List ℕ) → (IsUtf8 bytes → ⊥) → is_name bytes ≡ false
no_text_no_name bytes none = never_true (is_name bytes) (λ name. none (is_name_text bytes name))

pub name_short : (bytes : List ℕ) → is_name bytes ≡ true → length bytes ≤ 64
name_short bytes name = grind (arith, nat_tests, and_parts)

true_or_false : (b : Bool) → b ≡ true → b ≡ false → ⊥
true_or_false true h k = cc
true_or_false false h k = cc

unlike : (bytes name : List ℕ) → (IsUtf8 bytes → ⊥) → is_name name ≡ true → bytes_eq bytes name ≡ false
unlike bytes name none is =
    never_true (bytes_eq bytes name)
    (λ same. none (subst IsUtf8 (sym ((bytes_eq-Decides bytes name).0 same)) (is_name_text name is)))

-- bytes that are no text are listed among no names
pub no_text_not_listed : (names : List (List ℕ)) (bytes : List ℕ) → All (λ name. IsTrue (is_name name)) names → (IsUtf8 bytes → ⊥)
    → IsTrue (is_listed names bytes) → ⊥
no_text_not_listed names bytes named none listed =
    let differs : All (λ name. bytes_eq bytes name ≡ false) names =
    λ k d within. unlike bytes (get_or names k d) none (named k d within) in
    true_or_false (is_listed names bytes) listed (list_any_none (bytes_eq bytes) names differs)
