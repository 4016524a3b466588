-- The numbers of vertices, one after another.
use Rattle.std.proofs.Common.{◌≡◌, ◌<◌, ◌+◌, ◌++◌, ◌==◌, ℕ, List, [], ◌∷◌, length, get_or, refl, sym, ap, ◌∙◌, arith, true, false, not, Bool}
use Rattle.std.proofs.lemmas.{List.{length-map, get_or-map, map-append}, Bool.{true≢false, eqb-true}, Option.{slice_get-map, slice_get-get_or}}
use Rattle.std.proofs.lemmas.List.{get_or_append_left}
use Rattle.std.specs.{Prelude.slice_get, Option.{option_map, option_eq}, declared.option.Option.Option}
use Rattle.std.specs.declared.option.Option.TheVariants.{None, Some}
use Rattle.graph_types.specs.declared.ids.VertexId.{VertexId}
use Rattle.batch_apply.specs.Sorting.{ranked_numbers}

abbrev pub number_of : VertexId → ℕ
number_of v = v.0

pub as_many : (xs : List VertexId) → length (ranked_numbers xs) ≡ length xs
as_many xs = length-map xs number_of

pub number_at : (xs : List VertexId) (i : ℕ) (d : VertexId) → i < length xs → get_or (ranked_numbers xs) i 0 ≡ (get_or xs i d).0
number_at xs i d lt = get_or-map number_of xs i d 0 lt

pub one_more : (xs : List VertexId) (v : VertexId) → ranked_numbers (xs ++ v ∷ []) ≡ ranked_numbers xs ++ v.0 ∷ []
one_more xs v = map-append number_of xs (v ∷ [])

-- those before stay where they are, and the new one is the last
pub stays : (xs : List VertexId) (v : VertexId) (k : ℕ) → k < length xs
    → slice_get (ranked_numbers (xs ++ v ∷ [])) k ≡ slice_get (ranked_numbers xs) k
stays xs v k lt =
    slice_get-map number_of (xs ++ v ∷ []) k
    ∙ ap (option_map number_of) (slice_get-get_or (xs ++ v ∷ []) k v (omega (arith, more xs))
    ∙ ap (λ x. Some x) (get_or_append_left xs (v ∷ []) v k lt) ∙ sym (slice_get-get_or xs k v lt))
    ∙ sym (slice_get-map number_of xs k)
  where
    more : (xs : List VertexId) → length (xs ++ v ∷ []) ≡ length xs + 1
    more [] = refl
    more (x ∷ xs) = omega (arith, more xs)

pub new_last : (xs : List VertexId) (v : VertexId) → slice_get (ranked_numbers (xs ++ v ∷ [])) (length xs) ≡ Some v.0
new_last [] v = refl
new_last (x ∷ xs) v = new_last xs v

-- what an option has that is equal to a number
pub is_equal : (eq : VertexId → VertexId → Bool) → ((a b : VertexId) → eq a b ≡ (a.0 == b.0)) → (o : Option VertexId) (n : ℕ)
    → not (option_eq eq o (Some (record { 0 = n }))) ≡ false → option_map number_of o ≡ Some n
is_equal eq is None n even = absurd (true≢false even)
is_equal eq is (Some v) n even = ap (λ k. Some k) (eqb-true v.0 n (sym (is v (record { 0 = n })) ∙ holds (eq v (record { 0 = n })) even))
  where
    holds : (b : Bool) → not b ≡ false → b ≡ true
    holds true e = refl
    holds false e = absurd (true≢false e)
