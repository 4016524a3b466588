-- Levels, labels and links of a content, from tables of its arcs.
use Rattle.std.proofs.Common.{◌≡◌, ℕ, ◌+◌, ◌<◌, ◌≤◌, true, List, [], ◌∷◌, map, length, inl, inr, refl, sym, ap, subst, ◌∙◌, arith}
use Rattle.std.proofs.lemmas.{Bool.Decides.nat_tests, Grind.common_steps, List.get_or_default}
use Rattle.std.proofs.lemmas.List.{Elements.{All-contains, All-replicate}, FromFn.{length-range_with_len, get_or-range_with_len}}
use Rattle.std.specs.{List.{range_with_len, Contains}, Prelude.{replicate, count_by, nat_le, All}}
use Rattle.std.proofs.lemmas.Bool.{cases_lt}
use Rattle.graph_types.specs.Analyses.{Joins, AreLevels, AreLabels, IsLabel, Connects}
use Rattle.graph_types.specs.Arcs.{at, two_way, arcs_of, level_start, AreWithin, IsLowered, IsClosed, level_below, AreNeighbors}
use Rattle.graph_types.specs.{Graph.{IsContent, graph_of, Graph}, Limits.most_names, declared.contents.Content.Content}
use Rattle.graph_types.specs.declared.ids.Filter.{Filter}
use Rattle.graph_types.proofs.{Arcs.{two_way_within, joins_arc, arcs_within, leads_arc, arc_leads, arc_joins}, Counts.count_yes}
use Rattle.graph_types.proofs.{Settling.{level_start_long, settled_levels, settled_labels}, Walks.joined}
use Rattle.graph_types.proofs.{Times.{times, has_times, times_has, apart_times}, Walks.{then, one_step, backward}}

zero_at : (n v : ℕ) → at (replicate n 0) v ≡ 0
zero_at h0 v = grind (arith, common_steps)

-- where all numbers are 0 each neighbor has enough
pub all_zero : (n : ℕ) (zeros : List ℕ) → zeros ≡ replicate n 0 → (v : ℕ) (xs : List ℕ)
    → count_by (λ w. nat_le (at zeros v) (at zeros w)) xs ≡ length xs
all_zero n zeros blank v [] = refl
all_zero n zeros blank v (x ∷ xs) =
    let here : at zeros v ≡ 0 = ap (λ zs. at zs v) blank ∙ zero_at n v in
    let there : at zeros x ≡ 0 = ap (λ zs. at zs x) blank ∙ zero_at n x in
    let pass : nat_le (at zeros v) (at zeros x) ≡ true = grind (arith, nat_tests) in
    count_yes (λ w. nat_le (at zeros v) (at zeros w)) x xs pass ∙ ap (λ k. 1 + k) (all_zero n zeros blank v xs) ∙ omega arith

pub joined_within : (f : Filter) (c : Content) → IsContent c → (v w : ℕ) → Joins f (graph_of c) v w → w < length c.names
joined_within f c is v w j =
    (All-contains (λ (e : ℕ × ℕ). (e.0 < length c.names) × (e.1 < length c.names)) (two_way (arcs_of f c.edges)) (v, w)
    (two_way_within f c is) (joins_arc f c is v w j)).1

module _ (f : Filter) (c : Content) (is : IsContent c) where
  pub levels_within : (source : ℕ) (arcs : List (ℕ × ℕ)) (first : List ℕ) → arcs ≡ arcs_of f c.edges
      → first ≡ level_start (length c.names) source → AreWithin (length first) arcs
  levels_within source arcs first same start = rw (start, level_start_long (length c.names) source, same) (arcs_within f c is)

  pub levels_few : (source : ℕ) (first : List ℕ) → first ≡ level_start (length c.names) source
      → All (λ number. number ≤ most_names) first
  levels_few source first start = grind (arith, common_steps)

  pub levels_done : (source : ℕ) (arcs : List (ℕ × ℕ)) (first numbers : List ℕ) → source < length c.names
      → arcs ≡ arcs_of f c.edges → first ≡ level_start (length c.names) source
      → IsLowered arcs 1 first numbers → IsClosed arcs 1 numbers
      → AreLevels f (graph_of c) source (map (level_below (length c.names)) numbers)
  levels_done source arcs first numbers h same start l closed =
      settled_levels f (graph_of c) source (arcs_of f c.edges) (length c.names) numbers (leads_arc f c is) (arc_leads f c is)
      (arcs_within f c is) h
      (rw start at (rw same at l)) (rw same at closed)

  pub labels_within : (arcs : List (ℕ × ℕ)) (first : List ℕ) → arcs ≡ two_way (arcs_of f c.edges)
      → first ≡ range_with_len 0 (length c.names) → AreWithin (length first) arcs
  labels_within arcs first same start = rw (start, length-range_with_len 0 (length c.names), same) (two_way_within f c is)

  pub labels_few : (first : List ℕ) → first ≡ range_with_len 0 (length c.names) → All (λ number. number ≤ most_names) first
  labels_few first start = grind (arith, common_steps, length-range_with_len, get_or-range_with_len)

  pub labels_done : (arcs : List (ℕ × ℕ)) (first numbers : List ℕ) → arcs ≡ two_way (arcs_of f c.edges)
      → first ≡ range_with_len 0 (length c.names)
      → IsLowered arcs 0 first numbers → IsClosed arcs 0 numbers → AreLabels f (graph_of c) numbers
  labels_done arcs first numbers same start l closed =
      settled_labels f (graph_of c) (two_way (arcs_of f c.edges)) (length c.names) numbers (joins_arc f c is) (arc_joins f c is)
      (rw start at (rw same at l)) (rw same at closed)

pub other_way : (f : Filter) (g : Graph) (a b : ℕ) → Joins f g a b → Joins f g b a
other_way f g a b j = elim j [ inl x ↦ inr x | inr x ↦ inl x ]

pub numbers_within : (n : ℕ) (xs : List ℕ) → length xs ≡ n → ((v : ℕ) → v < n → at xs v ≡ v) → All (λ w. w < n) xs
numbers_within n xs long each k d lt = let e = each k (omega arith) in let same = get_or_default xs k d 0 lt in omega arith

pub numbers_all : (n : ℕ) (xs : List ℕ) → length xs ≡ n → ((v : ℕ) → v < n → at xs v ≡ v) → (v : ℕ) → v < n → Contains xs v
numbers_all n xs long each v lt = (v, omega arith, get_or_default xs v v 0 (omega arith) ∙ each v lt)

pub zeros_within : (n : ℕ) (links : List (ℕ × ℕ)) (zeros : List ℕ) → AreWithin n links → zeros ≡ replicate (length links) 0
    → All (λ w. w < n) zeros
zeros_within n [] zeros within is = subst (All (λ w. w < n)) (sym is) (λ k d lt. absurd (omega arith))
zeros_within n (x ∷ links) zeros within is =
    let lt = (within 0 x (omega arith)).0 in
    subst (All (λ w. w < n)) (sym is) (All-replicate (λ w. w < n) (length (x ∷ links)) 0 (omega arith))

-- the label of a label is that label
pub own_label : (f : Filter) (g : Graph) (v u w : ℕ) → IsLabel f g v u → IsLabel f g u w → w ≡ u
own_label f g v u w of_v of_u =
    let through = joined (Joins f g) of_u.0.0 of_v.0.0 w u v of_u.0.1 of_v.0.1 in
    let above = of_v.1 w through in
    let below = of_u.1 u (0, refl) in
    omega (arith, above, below)

-- first's tree is joined to a, second's to b
pub around : (f : Filter) (g : Graph) (a b r s : ℕ) → Connects f g r a → Connects f g s b → Joins f g a b → Connects f g r s
around f g a b r s p q j = then f g r a s p (then f g a b s (one_step f g a b j) (backward f g s b q))

module _ (f : Filter) (g : Graph) (n : ℕ) (neighbors : ℕ → List ℕ) (nb : AreNeighbors f g neighbors)
    (in' : (v : ℕ) → All (λ w. w < n) (neighbors v)) where
  -- a neighbor has its neighbor listed, just as often
  one_way : (v w : ℕ) → Contains (neighbors v) w → Contains (neighbors w) v
  one_way v w c = let j = (nb.exact v w).0 c in (nb.exact w v).1 ((λ e. j.0 (sym e)), other_way f g v w j.1)

  some_times : (v w : ℕ) → times w (neighbors v) ≤ times v (neighbors w)
  some_times v w = elim (cases_lt 0 (times w (neighbors v))) [
    | inl lt ↦
        let a = has_times v (neighbors w) (one_way v w (times_has w (neighbors v) (omega arith))) in
        let b = apart_times w (neighbors v) (nb.apart v) in
        omega arith
    | inr le ↦ omega arith
  ]

  pub same_times : (v w : ℕ) → times w (neighbors v) ≡ times v (neighbors w)
  same_times v w = let a = some_times v w in let b = some_times w v in omega arith
