-- Names are text, of 64 bytes at most; and several of them one after another.
use Rattle.std.proofs.Common.{◌≡◌, ℕ, ◌+◌, ◌≤◌, ◌<◌, List, [], ◌∷◌, ◌++◌, length, get_or, take, drop, Some}
use Rattle.std.proofs.Common.{sym, ap, ◌∙◌, arith, add-zero, append-nil}
use Rattle.std.proofs.lemmas.List.{take_more, get_or-drop, length-drop}
use Rattle.std.proofs.lemmas.{Grind.flat_map-append, List.{take-take, Sums.{sum_by-append, sum_by-cons, sum_by-take-le}}}
use Rattle.std.proofs.lemmas.Option.{get_or_from_slice_get, slice_get_within}
use Rattle.std.specs.List.{slice_get}
use Rattle.version_columns.specs.{Lookups.byte_count, Texts.{joined_texts, ends_from, chosen}}

-- one more is chosen
pub chosen_more : (names : List (List ℕ)) (first k : ℕ) (name : List ℕ) → slice_get names (first + k) ≡ Some name
    → chosen names first (k + 1) ≡ chosen names first k ++ name ∷ []
chosen_more names first k name at =
    let within : first + k < length names = slice_get_within names (first + k) name at in
    let left : k < length (drop first names) = omega (arith, length-drop first names) in
    let same : get_or (drop first names) k name ≡ name =
    get_or-drop first names k name ∙ get_or_from_slice_get names (first + k) name name at in
    take_more (drop first names) k name left ∙ ap (λ n. take k (drop first names) ++ n ∷ []) same

pub byte_count-more : (texts : List (List ℕ)) (text : List ℕ) → byte_count (texts ++ text ∷ []) ≡ byte_count texts + length text
byte_count-more texts text = let more = sum_by-append length texts (text ∷ []) in let one = sum_by-cons length text [] in omega (arith, more, one)

pub joined-more : (texts : List (List ℕ)) (text : List ℕ) → joined_texts (texts ++ text ∷ []) ≡ joined_texts texts ++ text
joined-more texts text = flat_map-append (λ t. t) texts (text ∷ []) ∙ ap (λ bs. joined_texts texts ++ bs) (append-nil text)

pub ends_from-more : (at : ℕ) (texts : List (List ℕ)) (text : List ℕ)
    → ends_from at (texts ++ text ∷ []) ≡ ends_from at texts ++ (at + byte_count texts + length text) ∷ []
ends_from-more at [] text = ap (λ n. (n + length text) ∷ []) (sym (add-zero at))
ends_from-more at (t ∷ texts) text =
    let same : (at + length t) + byte_count texts + length text ≡ at + byte_count (t ∷ texts) + length text = omega (arith, sum_by-cons length t texts) in
    ap (λ es. (at + length t) ∷ es) (ends_from-more (at + length t) texts text ∙ ap (λ n. ends_from (at + length t) texts ++ n ∷ []) same)

-- no more bytes are in the first of the chosen names
pub fewer_bytes : (names : List (List ℕ)) (first k n : ℕ) → k ≤ n → byte_count (chosen names first k) ≤ byte_count (chosen names first n)
fewer_bytes names first k n le =
    let part = sum_by-take-le length (chosen names first n) k in
    let same = ap byte_count (take-take k n (drop first names) le) in
    omega (arith, part, same)
