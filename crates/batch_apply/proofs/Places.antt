-- Where a source stands: among few that are looked through, or where the next place says.
use Rattle.std.proofs.Common.{◌≡◌, ℕ, suc, ◌+◌, ◌<◌, true, cond, List, [], ◌∷◌, ◌++◌, length, get_or, nat_eq, Some, None, refl}
use Rattle.std.proofs.Common.{sym, ap, ◌∙◌, arith}
use Rattle.std.proofs.lemmas.{Bool.{eqb-true, eq-eqb}, Map.Keys.any_passes_from_place, List.{map-append, Quantifiers.position-Some}, Option.slice_get-get_or}
use Rattle.std.{proofs.lemmas.Option.slice_get-map, specs.{Prelude.{position, slice_get}, List.list_any}}
use Rattle.std.{specs.Option.option_map, proofs.lemmas.Grind.common_steps}
use Rattle.graph_types.specs.declared.ids.VertexId.{VertexId}
use Rattle.graph_types.proofs.Searches.{list_any-map, any_first}
use Rattle.batch_apply.specs.{Shards.{source_numbers, with_number}, FirstSources.AreNext, declared.own_sources.Places.Places}

-- the sources, where one was found
pub found_among : (source : ℕ) (xs : List VertexId) (i : ℕ) → position (λ (s : VertexId). nat_eq source s.0) xs ≡ Some i
    → source_numbers xs ≡ with_number source (source_numbers xs)
found_among source xs i is = grind (arith, common_steps, list_any-map, any_first)

-- its place
pub found_at : (source : ℕ) (xs : List VertexId) (i : ℕ) → position (λ (s : VertexId). nat_eq source s.0) xs ≡ Some i
    → slice_get (source_numbers xs) i ≡ Some source
found_at source xs i is =
    let d : VertexId = record { 0 = 0 } in
    let there = position-Some (λ (s : VertexId). nat_eq source s.0) xs i d is in
    let same : source ≡ (get_or xs i d).0 = eqb-true source (get_or xs i d).0 there.1 in
    slice_get-map (λ (s : VertexId). s.0) xs i ∙ ap (option_map (λ (s : VertexId). s.0)) (slice_get-get_or xs i d there.0)
    ∙ ap (λ n. Some n) (sym same)

-- the sources, where none was found
pub added_among : (source : ℕ) (xs : List VertexId) → position (λ (s : VertexId). nat_eq source s.0) xs ≡ None
    → source_numbers (xs ++ (record { 0 = source }) ∷ []) ≡ with_number source (source_numbers xs)
added_among source xs is = grind (arith, common_steps, list_any-map, any_first, map-append)

-- its place, the last
pub added_at : (source : ℕ) (xs : List VertexId)
    → slice_get (source_numbers (xs ++ (record { 0 = source }) ∷ [])) (length xs) ≡ Some source
added_at source [] = refl
added_at source (x ∷ xs) = added_at source xs

-- the next of the places, and those after it
pub next_at : (sources : List ℕ) (source : ℕ) (rest : List ℕ) (p : Places) → AreNext sources (source ∷ rest) p
    → slice_get sources (get_or p.all.items p.next 0) ≡ Some source
next_at sources source rest p are =
    let here : p.next ≡ p.next + 0 = omega arith in
    ap (λ n. slice_get sources (get_or p.all.items n 0)) here ∙ are.1 0 (omega arith)

pub next_known : (sources : List ℕ) (source : ℕ) (rest : List ℕ) (p : Places) → AreNext sources (source ∷ rest) p
    → sources ≡ with_number source sources
next_known sources source rest p are =
    let known : list_any (nat_eq source) sources ≡ true = any_passes_from_place (nat_eq source) sources
    (get_or p.all.items p.next 0) source (next_at sources source rest p are) (eq-eqb source source refl) in
    ap (λ b. cond b sources (sources ++ source ∷ [])) (sym known)

pub next_moved : (sources : List ℕ) (source : ℕ) (rest : List ℕ) (p q : Places) → q.all.items ≡ p.all.items
    → q.next ≡ p.next + 1 → AreNext sources (source ∷ rest) p → AreNext sources rest q
next_moved sources source rest p q same next are = (
  ap length same ∙ omega (arith, are.0, next),
  λ k lt. let there : q.next + k ≡ p.next + (k + 1) = omega (arith, next) in
      let one : k + 1 ≡ suc k = omega arith in
      ap (λ (l : List ℕ). slice_get sources (get_or l (q.next + k) 0)) same
      ∙ ap (λ n. slice_get sources (get_or p.all.items n 0)) there ∙ are.1 (k + 1) (omega arith)
      ∙ ap (λ n. Some (get_or (source ∷ rest) n 0)) one,
)

pub next_within : (sources : List ℕ) (source : ℕ) (rest : List ℕ) (p : Places) → AreNext sources (source ∷ rest) p
    → p.next < length p.all.items
next_within sources source rest p are = omega (arith, are.0)
