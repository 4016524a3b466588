-- Sums over all sources below a number, and over a graph's edges.
use Rattle.std.proofs.Common.{◌≡◌, ℕ, zero, suc, ◌+◌, ◌<◌, ◌≤◌, List, map, length, get_or, ◌==◌, All, count_by, refl, sym, ap, []}
use Rattle.std.proofs.{Common.{◌∙◌, arith}, lemmas.List.{map-id, FromFn.sum_by-map-range_with_len_more}}
use Rattle.std.specs.{FinMap.{entries, get-entries}, List.{sum_by, range_with_len, zip}, Prelude.is_some}
use Rattle.std.proofs.Common.{Bool, ◌++◌, ap₂}
use Rattle.graph_types.specs.{Answer.{degree_table, degree_at}, Graph.{Graph, Key, Stamp}, View.in_view}
use Rattle.graph_types.specs.declared.ids.Filter.{Filter}
use Rattle.graph_types.proofs.{Counts.others, EdgeMaps.found, SourceSums.{column, by_sources}}
use Rattle.graph_types.proofs.Sums.{none_below, count_filter, others_below, count_others, sum_absent, sum_one, count_by-append}
use Rattle.edge_block.specs.Batches.{sum_below, HasEndsWithin}

pub shift : (n : ℕ) (f : ℕ → ℕ) → sum_below (suc n) f ≡ f 0 + sum_below n (λ s. f (suc s))
shift zero f = refl
shift (suc n) f = let rest = shift n f in omega arith

pub below_plus : (n : ℕ) (f g h : ℕ → ℕ) → ((s : ℕ) → f s ≡ g s + h s) → sum_below n f ≡ sum_below n g + sum_below n h
below_plus zero f g h each = refl
below_plus (suc n) f g h each = let here = each n in let rest = below_plus n f g h each in omega arith

pub below_zero : (n : ℕ) → (let f : ℕ → ℕ = λ _. 0 in sum_below n f) ≡ 0
below_zero zero = refl
below_zero (suc n) = let rest = below_zero n in omega arith

pub sum_range : (f : ℕ → ℕ) (n : ℕ) → sum_by f (range_with_len 0 n) ≡ sum_below n f
sum_range f zero = refl
sum_range f (suc n) =
    let next : suc n ≡ n + 1 = omega arith in
    let more = sum_by-map-range_with_len_more f (λ (x : ℕ). x) 0 n n (omega arith) in
    let rest = sum_range f n in
    let a : sum_by f (range_with_len 0 (n + 1)) ≡ sum_by f (map (λ (x : ℕ). x) (range_with_len 0 (n + 1))) =
    ap (sum_by f) (sym (map-id (range_with_len 0 (n + 1)))) in
    let b : sum_by f (map (λ (x : ℕ). x) (range_with_len 0 n)) ≡ sum_by f (range_with_len 0 n) =
    ap (sum_by f) (map-id (range_with_len 0 n)) in
    ap (λ (k : ℕ). sum_by f (range_with_len 0 k)) next ∙ omega (arith, more, rest, a, b)

-- a sum over different numbers below n is one over all numbers below n, where the others add nothing
pub sum_all : (f : ℕ → ℕ) (n : ℕ) (xs : List ℕ) → ((m : ℕ) → count_by (λ x. x == m) xs ≤ 1) → All (λ x. x < n) xs
    → ((m : ℕ) → m < n → count_by (λ x. x == m) xs ≡ 0 → f m ≡ 0) → sum_by f xs ≡ sum_below n f
sum_all f zero xs once below rest = none_below f xs below
sum_all f (suc n) xs once below rest =
    let few = once n in
    let ys : List ℕ = others n xs in
    let again : sum_by f ys ≡ sum_below n f =
    sum_all f n ys (λ m. let a = once m in let b = count_filter (λ x. x == m) n xs in omega arith) (others_below n xs below)
    (λ m lt none. rest m (omega arith) (sym (count_others m n (λ e. omega arith) xs) ∙ none)) in
    elim (count_by (λ x. x == n) xs) as (λ k. count_by (λ x. x == n) xs ≡ k → sum_by f xs ≡ f n + sum_below n f) [
      | zero ↦ λ e. let none = rest n (omega arith) e in let z = sum_absent f n xs e in omega arith
      | suc k ↦ λ e. let z = sum_one f n xs (omega arith) in omega arith
    ] refl

sources : (g : Graph) → HasEndsWithin g → All (λ (e : Key × Stamp). e.0.source < length g.names) (entries g.edges)
sources g within = λ k d below.
    (within (get_or (entries g.edges) k d).0
    (ap is_some (get-entries g.edges (get_or (entries g.edges) k d).0) ∙ found (entries g.edges) k d below)).1

pub edges_in_view : (filter : Filter) (g : Graph) → HasEndsWithin g
    → sum_by (λ entry. entry.1.outgoing) (zip g.names (degree_table filter g)) ≡ count_by (in_view filter) (entries g.edges)
edges_in_view filter g within =
    column (degree_at filter g) g.names 0 ∙ by_sources filter (entries g.edges) (length g.names) (sources g within)

pub same_below : (n : ℕ) (f g : ℕ → ℕ) → ((s : ℕ) → s < n → f s ≡ g s) → sum_below n f ≡ sum_below n g
same_below zero f g each = refl
same_below (suc n) f g each =
    let here = each n (omega arith) in let rest = same_below n f g (λ s less. each s (omega arith)) in omega arith

-- the lists of all numbers below n, the last one first
abbrev pub lists_below : {A : Type 0} → ℕ → (ℕ → List A) → List A
lists_below zero h = []
lists_below (suc n) h = h n ++ lists_below n h

pub count_below : {A : Type 0} (p : A → Bool) (n : ℕ) (h : ℕ → List A)
    → count_by p (lists_below n h) ≡ sum_below n (λ s. count_by p (h s))
count_below p zero h = refl
count_below p (suc n) h = count_by-append p (h n) (lists_below n h) ∙ ap (λ k. count_by p (h n) + k) (count_below p n h)

pub same_lists_below : {A : Type 0} (n : ℕ) (h g : ℕ → List A) → ((s : ℕ) → h s ≡ g s) → lists_below n h ≡ lists_below n g
same_lists_below zero h g each = refl
same_lists_below (suc n) h g each = ap₂ (λ a b. a ++ b) (each n) (same_lists_below n h g each)
