-- Names in a book: their numbers, and what one more name leaves true.
use Rattle.std.proofs.Common.{◌≡◌, ◌≢◌, ℕ, ◌<◌, Bool, true, false, length-append, List, [], ◌∷◌}
use Rattle.std.proofs.Common.{◌++◌, length, get_or, IsTrue, Option, Some, None, inl, inr, refl, sym, ap, subst, ◌∙◌, arith}
use Rattle.std.proofs.{Common.{All, AllPairs}, Math.Seq.get_or-append_seam}
use Rattle.std.proofs.lemmas.{Bool.false_from_ne_true, Bool.Decides.eqb_tells, Slice.Eq.bytes_eq-Decides}
use Rattle.std.proofs.lemmas.List.{Elements.All-push, Quantifiers.all_pairs_push, get_or_append_left, get_or_past}
use Rattle.std.proofs.lemmas.Option.{same_Some, none-some, slice_get_within, get_or_from_slice_get}
use Rattle.std.specs.{Option.SomeIff, Option.IfSome, Option.IfNone, List.slice_get, Str.bytes_eq}
use Rattle.std.specs.Prelude.{◌==◌}
use Rattle.std.proofs.{Math.Nat.eq-or-lt_of_le, lemmas.{Bool.{false≢true, cases_lt}, Grind.common_steps}}
use Rattle.std.proofs.lemmas.List.Elements.{All-get_or}
use Rattle.graph_types.specs.{Step.number_of, Answer.is_listed, Valid.is_name}
use Rattle.graph_types.specs.{Parts.{kinds_after, kinds_after_all}, declared.batches.NamedOp.NamedOp}
use Rattle.graph_types.proofs.{ListedNames.{differs, at_number, listed_at}, Numbers.lt_or_last, OperationParts.no_fewer_kinds_all}
use Rattle.vertex_names.specs.{Index.text_hash, Index.found_at, Index.Stands, Index.IsIndexed, Book.Book, Book.IsBook}

-- a name that the book as it is shown doesn't list
pub not_listed : (book shown : Book) (name : List ℕ) → book ≡ shown → ¬ IsTrue (is_listed shown.names name)
    → is_listed book.names name ≡ false
not_listed book shown name same new = false_from_ne_true _
    (subst (λ (b : Book). ¬ IsTrue (is_listed b.names name)) (sym same) new)

-- a new name within the limit leaves a book
pub IsBook-pushed : (limit : ℕ) (names : List (List ℕ)) (name : List ℕ) → IsTrue (is_name name) → is_listed names name ≡ false
    → length names < limit → IsBook (record { limit = limit; names = names })
    → IsBook (record { limit = limit; names = names ++ name ∷ [] })
IsBook-pushed limit names name named new room is_book = record {
  fits = is_book.fits;
  few = simp length-append (omega arith);
  distinct = all_pairs_push (λ a b. a ≢ b) names name is_book.distinct (differs names name new);
  named = All-push (λ n. IsTrue (is_name n)) names name is_book.named named;
}

-- a listed name's number stands at its hash
stands : (names : List (List ℕ)) (shelves : List (List (List (ℕ × List (ℕ × ℕ))))) (others : List ℕ) (name : List ℕ)
    → IsIndexed names shelves others → IsTrue (is_listed names name) → Stands shelves others (text_hash name) (number_of names name)
stands names shelves others name indexed listed =
    let there = at_number names name listed in
    subst (λ (n : List ℕ). Stands shelves others (text_hash n) (number_of names name))
    (get_or_from_slice_get names (number_of names name) name [] there)
    (indexed (number_of names name) (slice_get_within names (number_of names name) name there))

-- where nothing stands at a name's hash, it is not listed
pub none_listed : (names : List (List ℕ)) (shelves : List (List (List (ℕ × List (ℕ × ℕ))))) (others : List ℕ) (name : List ℕ)
    → IsIndexed names shelves others → found_at shelves (text_hash name) ≡ None → ¬ IsTrue (is_listed names name)
none_listed names shelves others name indexed none listed =
    elim (stands names shelves others name indexed listed) [
      | inl at ↦ none-some (number_of names name) (sym none ∙ at)
      | inr among ↦ among.0 none
    ]

-- where a name is neither at the number of its hash nor among the others, it is not listed
pub not_among : (names : List (List ℕ)) (shelves : List (List (List (ℕ × List (ℕ × ℕ))))) (others : List ℕ) (name : List ℕ) (first : ℕ)
    → IsIndexed names shelves others → found_at shelves (text_hash name) ≡ Some first → ¬ (slice_get names first ≡ Some name)
    → All (λ number. slice_get names number ≢ Some name) others → ¬ IsTrue (is_listed names name)
not_among names shelves others name first indexed found other none listed =
    elim (stands names shelves others name indexed listed) [
      | inl at ↦
          let same : first ≡ number_of names name = same_Some _ _ (sym found ∙ at) in
          other (ap (λ n. slice_get names n) same ∙ at_number names name listed)
      | inr among ↦
          none among.1.0 (number_of names name) among.1.1.0
          (ap (λ n. slice_get names n) (sym among.1.1.1) ∙ at_number names name listed)
    ]

-- what a search of the others finds is the number
pub SomeIff-among : (names : List (List ℕ)) (shelves : List (List (List (ℕ × List (ℕ × ℕ))))) (others : List ℕ) (name : List ℕ) (first : ℕ)
    (result : Option ℕ) → AllPairs (λ a b. a ≢ b) names → IsIndexed names shelves others
    → found_at shelves (text_hash name) ≡ Some first → ¬ (slice_get names first ≡ Some name)
    → IfSome result (λ number. slice_get names number ≡ Some name)
    → IfNone result (All (λ number. slice_get names number ≢ Some name) others)
    → SomeIff result (IsTrue (is_listed names name)) (number_of names name)
SomeIff-among names shelves others name first None distinct indexed found other is_there absent =
    not_among names shelves others name first indexed found other absent
SomeIff-among names shelves others name first (Some number) distinct indexed found other is_there absent =
    listed_at names number name distinct is_there

-- another index that keeps what stands
pub IsIndexed-kept : (names : List (List ℕ)) (shelves kept : List (List (List (ℕ × List (ℕ × ℕ))))) (others more : List ℕ)
    → IsIndexed names shelves others → ((q i : ℕ) → Stands shelves others q i → Stands kept more q i) → IsIndexed names kept more
IsIndexed-kept names shelves kept others more indexed keeps i lt = keeps (text_hash (get_or names i [])) i (indexed i lt)

-- one more name, whose number stands
pub IsIndexed-pushed : (names : List (List ℕ)) (shelves : List (List (List (ℕ × List (ℕ × ℕ))))) (others : List ℕ) (name : List ℕ)
    → IsIndexed names shelves others → Stands shelves others (text_hash name) (length names)
    → IsIndexed (names ++ name ∷ []) shelves others
IsIndexed-pushed names shelves others name indexed new i lt =
    let long = length-append names (name ∷ []) in
    elim (lt_or_last i (length names) (omega arith)) [
      | inl before ↦ subst (λ (n : List ℕ). Stands shelves others (text_hash n) i)
          (sym (get_or_append_left names (name ∷ []) [] i before)) (indexed i before)
      | inr last ↦
          let here : get_or (names ++ name ∷ []) i [] ≡ name =
          ap (λ n. get_or (names ++ name ∷ []) n []) last ∙ get_or-append_seam names name [] [] in
          subst (λ (n : ℕ). Stands shelves others (text_hash (get_or (names ++ name ∷ []) i [])) n) (sym last)
          (subst (λ (n : List ℕ). Stands shelves others (text_hash n) (length names)) (sym here) new)
    ]

-- a refusal of one operation's kind is one of it and those behind it
pub kinds_refused : (op : NamedOp) (behind : List NamedOp) (kinds : Book) → kinds.limit < length (kinds_after op kinds.names)
    → kinds.limit < length (kinds_after_all (op ∷ behind) kinds.names)
kinds_refused op behind kinds refused = grind (arith, common_steps, no_fewer_kinds_all)

-- a vertex has its label's name where it is its own label, and nowhere else: names differ, and no name is empty
pub own_text : (book : Book) (v label : ℕ) → IsBook book → v < length book.names
    → bytes_eq (get_or book.names v []) (get_or book.names label []) ≡ (label == v)
own_text book v label is within = elim (eqb_tells label v) [
  | inl same ↦ (bytes_eq-Decides (name v) (name label)).1 (ap name (sym same.1)) ∙ sym same.0
  | inr other ↦ different (bytes_eq (name v) (name label)) refl other.1 ∙ sym other.0
] where
  name : ℕ → List ℕ
  name i = get_or book.names i []

  not_empty : name v ≡ [] → ⊥
  not_empty empty = false≢true
      (subst (λ n. IsTrue (is_name n)) empty (All-get_or (λ n. IsTrue (is_name n)) book.names v [] within is.named))

  apart : (a b : ℕ) → a < b → b < length book.names → name a ≡ name b → ⊥
  apart a b less below same = is.distinct a b [] less below same

  alike : name v ≡ name label → label ≢ v → ⊥
  alike same other = elim (cases_lt label v) [
    | inl less ↦ apart label v less within (sym same)
    | inr least ↦ elim (cases_lt label (length book.names)) [
      | inl below ↦ elim (eq-or-lt_of_le least) [
        | inl equal ↦ other (sym equal)
        | inr more ↦ apart v label more below same
      ]
      | inr past ↦ not_empty (same ∙ get_or_past book.names label [] past)
    ]
  ]

  different : (b : Bool) → bytes_eq (name v) (name label) ≡ b → label ≢ v → bytes_eq (name v) (name label) ≡ false
  different true is_same other = absurd (alike ((bytes_eq-Decides (name v) (name label)).0 is_same) other)
  different false is_same other = is_same
