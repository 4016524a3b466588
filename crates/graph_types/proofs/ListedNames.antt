-- Whether a name is listed, and where, as more names appear.
use Rattle.std.proofs.Common.{◌≡◌, ℕ, zero, suc, ◌+◌, ◌<◌, ◌≤◌, Bool, true, false, cond, not, ◌&&◌, ◌||◌, ◌≢◌, List, [], ◌∷◌}
use Rattle.std.proofs.Common.{◌++◌, length, get_or, drop, if◌then◌else◌, IsTrue, Some, None, Option, AllPairs, true≢false}
use Rattle.std.proofs.{Common.{add-one, drop-cons, refl, sym, ap, subst, ◌∙◌, arith}, lemmas.Grind.common_steps}
use Rattle.std.proofs.lemmas.{List.Folds.list_any_at, Option.{slice_get_within, get_or_from_slice_get, unwrap_or-slice_get}}
use Rattle.std.proofs.lemmas.Slice.Eq.{bytes_eq-Decides}
use Rattle.std.specs.{List.slice_get, Option.unwrap_or, Prelude.{slice_index_or, zip}, Str.bytes_eq}
use Rattle.graph_types.specs.{Answer.is_listed, Step.{number_of, with_name}}
use Rattle.graph_types.proofs.{NameLists.{appears-with_name, stays-with_name, number_of-lt}, NameNumbers.number_at_most}

pub at_most : (read names : List (List ℕ)) (name : List ℕ) (number : ℕ) → number ≡ number_of read name → read ≡ names
    → number ≤ length names
at_most read names name number is same = omega (arith, is, number_at_most read name, ap length same)

pub all_known : (a b c : Bool) → a ≡ true → b ≡ true → c ≡ true → (a && (b && c)) ≡ false → ⊥
all_known a b c p q r h = true≢false ((λ i. sym p i && (sym q i && sym r i)) ∙ h)

-- the names that an operation makes are known
pub all_appear : (names kinds : List (List ℕ)) (kind source target : List ℕ) →
    let all = with_name (with_name names source) target in
    (is_listed (with_name kinds kind) kind && (is_listed all source && is_listed all target)) ≡ false → ⊥
all_appear names kinds kind source target =
    all_known _ _ _ (appears-with_name kinds kind) (stays-with_name _ target source (appears-with_name names source))
    (appears-with_name _ target)

-- a name that is not listed differs from each that is
pub differs : (names : List (List ℕ)) (name : List ℕ) → is_listed names name ≡ false → (k : ℕ) (d : List ℕ) → k < length names
    → get_or names k d ≢ name
differs names name new k d in_range same =
    true≢false (sym (list_any_at (bytes_eq name) names k d in_range ((bytes_eq-Decides name (get_or names k d)).1 (sym same)))
    ∙ new)

-- a listed name stands at its number
at_next : (name x : List ℕ) (names : List (List ℕ)) (found : Bool) → found ≡ bytes_eq name x
    → (IsTrue (is_listed names name) → slice_get names (number_of names name) ≡ Some name)
    → IsTrue (found || is_listed names name) → slice_get (x ∷ names) (cond (not found) (1 + number_of names name) 0) ≡ Some name
at_next name x names true is rest listed = ap Some (sym ((bytes_eq-Decides name x).0 (sym is)))
at_next name x names false is rest listed =
    let further : 1 + number_of names name ≡ suc (number_of names name) = omega arith in
    ap (λ n. slice_get (x ∷ names) n) further ∙ rest listed

pub at_number : (names : List (List ℕ)) (name : List ℕ) → IsTrue (is_listed names name)
    → slice_get names (number_of names name) ≡ Some name
at_number [] name listed = absurd (true≢false (sym listed))
at_number (x ∷ names) name listed = at_next name x names (bytes_eq name x) refl (at_number names name) listed

-- a name stands once
once : (names : List (List ℕ)) (i j : ℕ) (name : List ℕ) → AllPairs (λ a b. a ≢ b) names → slice_get names i ≡ Some name
    → slice_get names j ≡ Some name → ¬ (i < j)
once names i j name distinct at_i at_j lt =
    distinct i j [] lt (slice_get_within names j name at_j)
    (get_or_from_slice_get names i name [] at_i ∙ sym (get_or_from_slice_get names j name [] at_j))

-- what stands at a place is listed, and the place is its number
pub listed_at : (names : List (List ℕ)) (j : ℕ) (name : List ℕ) → AllPairs (λ a b. a ≢ b) names → slice_get names j ≡ Some name
    → IsTrue (is_listed names name) × (j ≡ number_of names name)
listed_at names j name distinct at =
    let lt = slice_get_within names j name at in
    let same : name ≡ get_or names j [] = sym (get_or_from_slice_get names j name [] at) in
    let listed : IsTrue (is_listed names name) =
    list_any_at (bytes_eq name) names j [] lt ((bytes_eq-Decides name (get_or names j [])).1 same) in
    let there = at_number names name listed in
    let below = once names j (number_of names name) name distinct at there in
    let above = once names (number_of names name) j name distinct there at in
    (listed, omega (arith, below, above))

-- past the last name
pub none_at : (names : List (List ℕ)) (n : ℕ) → slice_get names n ≡ None → slice_index_or names n [] ≡ []
none_at [] zero is = refl
none_at [] (suc n) is = refl
none_at (name ∷ names) zero is = cc
none_at (name ∷ names) (suc n) is = none_at names n is

-- a listed name is listed among more, with its number
listed_next : (name x : List ℕ) (names more : List (List ℕ)) (found : Bool)
    → (IsTrue (is_listed names name) → IsTrue (is_listed (names ++ more) name)
    × (number_of (names ++ more) name ≡ number_of names name))
    → IsTrue (found || is_listed names name) → IsTrue (found || is_listed (names ++ more) name)
    × (cond (not found) (1 + number_of (names ++ more) name) 0 ≡ cond (not found) (1 + number_of names name) 0)
listed_next name x names more found rest listed = grind (arith, common_steps)

pub listed_among : (names more : List (List ℕ)) (name : List ℕ) → IsTrue (is_listed names name)
    → IsTrue (is_listed (names ++ more) name) × (number_of (names ++ more) name ≡ number_of names name)
listed_among [] more name listed = absurd (true≢false (sym listed))
listed_among (x ∷ names) more name listed = listed_next name x names more (bytes_eq name x) (listed_among names more name) listed

last_next : (name x : List ℕ) (names : List (List ℕ)) (found : Bool) → IsTrue (is_listed (names ++ name ∷ []) name)
    → IsTrue (found || is_listed (names ++ name ∷ []) name)
last_next name x names found rest = grind (arith, common_steps)

last_listed : (names : List (List ℕ)) (name : List ℕ) → IsTrue (is_listed (names ++ name ∷ []) name)
last_listed [] name = ap (λ b. b || false) ((bytes_eq-Decides name name).1 refl)
last_listed (x ∷ names) name = last_next name x names (bytes_eq name x) (last_listed names name)

entered_if : (names : List (List ℕ)) (name : List ℕ) (b : Bool) → b ≡ is_listed names name
    → IsTrue (is_listed (if b then names else names ++ name ∷ []) name)
entered_if names name b is = grind (arith, common_steps, last_listed)

-- a name that has appeared is listed
pub entered : (names : List (List ℕ)) (name : List ℕ) → IsTrue (is_listed (with_name names name) name)
entered names name = entered_if names name (is_listed names name) refl

kept_if : (names : List (List ℕ)) (other name : List ℕ) (b : Bool) → IsTrue (is_listed names name)
    → IsTrue (is_listed (if b then names else names ++ other ∷ []) name)
    × (number_of (if b then names else names ++ other ∷ []) name ≡ number_of names name)
kept_if names other name true listed = (listed, refl)
kept_if names other name false listed = listed_among names (other ∷ []) name listed

-- a listed name keeps its number as another appears
pub kept : (names : List (List ℕ)) (other name : List ℕ) → IsTrue (is_listed names name)
    → IsTrue (is_listed (with_name names other) name) × (number_of (with_name names other) name ≡ number_of names name)
kept names other name listed = kept_if names other name (is_listed names other) listed

placed_new : (names : List (List ℕ)) (name : List ℕ) → number_of names name ≡ number_of (names ++ name ∷ []) name
placed_new [] name = ap (λ b. cond (not b) 1 0) (sym ((bytes_eq-Decides name name).1 refl))
placed_new (x ∷ names) name = ap (λ n. cond (not (bytes_eq name x)) (1 + n) 0) (placed_new names name)

placed_if : (names : List (List ℕ)) (name : List ℕ) (b : Bool)
    → number_of names name ≡ number_of (if b then names else names ++ name ∷ []) name
placed_if names name b = grind (arith, common_steps, placed_new)

-- a name has the number before that it has once it has appeared
pub placed : (names : List (List ℕ)) (name : List ℕ) → number_of names name ≡ number_of (with_name names name) name
placed names name = placed_if names name (is_listed names name)

-- the number of a listed name is below their count
pub listed_below : (names : List (List ℕ)) (name : List ℕ) (number : ℕ) → is_listed names name ≡ true
    → number ≡ number_of names name → number < length names
listed_below names name number listed is = subst (λ k. k < length names) (sym is) (number_of-lt names name listed)

-- a vertex's name, and the empty one past the last vertex
pub name_there : (names : List (List ℕ)) (number : ℕ) (name : List ℕ) → Some name ≡ slice_get names number
    → name ≡ get_or names number []
name_there names number name is = ap (λ o. unwrap_or o []) is ∙ unwrap_or-slice_get names number []

pub name_past : (names : List (List ℕ)) (number : ℕ) → None ≡ slice_get names number → [] ≡ get_or names number []
name_past names number is = ap (λ o. unwrap_or o []) is ∙ unwrap_or-slice_get names number []

pub zip_none : (names : List (List ℕ)) → zip names (let none : List (Option ℕ) = [] in none) ≡ []
zip_none [] = refl
zip_none (name ∷ names) = refl

pub next_name : (names : List (List ℕ)) (v : ℕ) → v < length names → drop v names ≡ get_or names v [] ∷ drop (v + 1) names
next_name names v lt = rw add-one (drop-cons names v [] lt)
