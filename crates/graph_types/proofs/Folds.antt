-- What is gathered over a graph's map is what is gathered over the list of its edges: a finite map has its
-- entries in the order of their keys, so this holds of each fold whose steps commute.
use Rattle.std.proofs.Common.{◌≡◌, ◌+◌, Bool, true, false, cond, List, [], ◌∷◌, map, ℤ, pos, ◌+ℤ◌, refl, sym, ap, ◌∙◌, arith}
use Rattle.std.proofs.lemmas.{List.nil_from_length, List.Sums.sum_by-cons, List.Folds.fold-map, Option.none-some, Int.ints}
use Rattle.std.specs.{Prelude.{count_by, filter, fold}, Ordering.is_eq, FinMap.{entries, empty, find, get-entries}}
use Rattle.std.specs.FinMap.{get-from_entries, entries-insert, len-entries, len-empty, Entries.{put, by_order}}
use Rattle.std.specs.declared.{cmp.Ordering.TheVariants.{Less, Equal, Greater}, option.Option.TheVariants.{None, Some}}
use Rattle.graph_types.specs.{Graph.{Key, Stamp, key_cmp, key_of, stamp_of, entry_of, map_of}, declared.ids.Edge.Edge}
use Rattle.graph_types.proofs.Keys.{keys_total, HasKeysOnce, once_head, once_tail, find_absent}

-- gathers by steps from the end of the list, which commute
pub record IsGathered {A : Type 0} (gather : List (Key × Stamp) → A) (step : Key × Stamp → A → A) : Type 0 where
  pub more : (x : Key × Stamp) (xs : List (Key × Stamp)) → gather (x ∷ xs) ≡ step x (gather xs)
  pub commutes : (x y : Key × Stamp) (a : A) → step x (step y a) ≡ step y (step x a)

module _ {A : Type 0} (gather : List (Key × Stamp) → A) (step : Key × Stamp → A → A) (steps : IsGathered gather step) where
  gathered_put : (k : Key) (s : Stamp) (xs : List (Key × Stamp)) → find key_cmp k xs ≡ None
      → gather (put key_cmp k s xs) ≡ step (k, s) (gather xs)
  gathered_put k s [] none = steps.more (k, s) []
  gathered_put k s (x ∷ xs) none =
      elim (key_cmp k x.0) as (λ o. cond (is_eq o) (Some x.1) (find key_cmp k xs) ≡ None
      → gather (by_order o ((k, s) ∷ x ∷ xs) ((x.0, s) ∷ xs) (x ∷ put key_cmp k s xs)) ≡ step (k, s) (gather (x ∷ xs))) [
        | Less ↦ λ h. steps.more (k, s) (x ∷ xs)
        | Equal ↦ λ h. absurd (none-some x.1 (sym h))
        | Greater ↦ λ h.
            steps.more x (put key_cmp k s xs) ∙ ap (step x) (gathered_put k s xs h) ∙ steps.commutes x (k, s) (gather xs)
            ∙ ap (step (k, s)) (sym (steps.more x xs))
      ] none

  pub gathered_entries : (edges : List Edge) → HasKeysOnce edges → gather (entries (map_of edges)) ≡ gather (map entry_of edges)
  gathered_entries [] once = ap gather (nil_from_length _ (sym (len-entries empty) ∙ len-empty key_cmp Stamp))
  gathered_entries (e ∷ es) once =
      let none = sym (get-entries (map_of es) (key_of e)) ∙ get-from_entries keys_total (map entry_of es) (key_of e)
      ∙ find_absent (key_of e) es (once_head e es once) in
      ap gather (entries-insert keys_total (map_of es) (key_of e) (stamp_of e))
      ∙ gathered_put (key_of e) (stamp_of e) (entries (map_of es)) none
      ∙ ap (step (entry_of e)) (gathered_entries es (once_tail e es once))
      ∙ sym (steps.more (entry_of e) (map entry_of es))

counts : (p : Key × Stamp → Bool) → IsGathered (count_by p) (λ x n. cond (p x) 1 0 + n)
counts p = record { more = λ x xs. sum_by-cons (λ y. cond (p y) 1 0) x xs; commutes = λ x y n. omega arith }

-- a count over the map is one over the list
pub count_entries : (p : Key × Stamp → Bool) (edges : List Edge) → HasKeysOnce edges
    → count_by p (entries (map_of edges)) ≡ count_by (λ e. p (entry_of e)) edges
count_entries p edges once =
    gathered_entries (count_by p) (λ x n. cond (p x) 1 0 + n) (counts p) edges once
    ∙ fold-map (λ n x. n + cond (p x) 1 0) entry_of 0 edges

-- a sum of integers, from its first
pub fold_from : (a : ℤ) (zs : List ℤ) → fold ◌+ℤ◌ a zs ≡ a +ℤ fold ◌+ℤ◌ (pos 0) zs
fold_from a [] = omega (arith, ints)
fold_from a (z ∷ zs) = omega (arith, ints, fold_from (a +ℤ z) zs, fold_from (pos 0 +ℤ z) zs)

-- the sum of the weights of those that pass
abbrev pub weight_of : (Key × Stamp → Bool) → List (Key × Stamp) → ℤ
weight_of p xs = fold ◌+ℤ◌ (pos 0) (map (λ x. x.1.weight) (filter p xs))

weights : (p : Key × Stamp → Bool) → IsGathered (weight_of p) (λ x z. cond (p x) x.1.weight (pos 0) +ℤ z)
weights p = record {
  more =
      λ x xs. elim (p x) as (λ b. fold ◌+ℤ◌ (pos 0) (map (λ y. y.1.weight) (cond b (x ∷ filter p xs) (filter p xs)))
      ≡ cond b x.1.weight (pos 0) +ℤ weight_of p xs) [
        | true ↦ omega (arith, ints, fold_from (pos 0 +ℤ x.1.weight) (map (λ y. y.1.weight) (filter p xs)))
        | false ↦ omega (arith, ints)
      ];
  commutes = λ x y z. omega (arith, ints);
}

filtered_weights : (p : Key × Stamp → Bool) (edges : List Edge)
    → map (λ x. x.1.weight) (filter p (map entry_of edges)) ≡ map (λ e. e.weight) (filter (λ e. p (entry_of e)) edges)
filtered_weights p [] = refl
filtered_weights p (e ∷ es) =
    elim (p (entry_of e)) as (λ b. map (λ x. x.1.weight)
    (cond b (entry_of e ∷ filter p (map entry_of es)) (filter p (map entry_of es)))
    ≡ map (λ x. x.weight) (cond b (e ∷ filter (λ x. p (entry_of x)) es) (filter (λ x. p (entry_of x)) es))) [
      | true ↦ ap (λ zs. e.weight ∷ zs) (filtered_weights p es)
      | false ↦ filtered_weights p es
    ]

-- a sum of weights over the map is one over the list
pub weight_entries : (p : Key × Stamp → Bool) (edges : List Edge) → HasKeysOnce edges
    → weight_of p (entries (map_of edges)) ≡ fold ◌+ℤ◌ (pos 0) (map (λ e. e.weight) (filter (λ e. p (entry_of e)) edges))
weight_entries p edges once =
    gathered_entries (weight_of p) (λ x z. cond (p x) x.1.weight (pos 0) +ℤ z) (weights p) edges once
    ∙ ap (fold ◌+ℤ◌ (pos 0)) (filtered_weights p edges)
