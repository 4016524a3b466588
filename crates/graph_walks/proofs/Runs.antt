-- What stands together in a list by its numbers.
use Rattle.std.proofs.Common.{◌≡◌, ◌==◌, ◌<◌, ◌≤◌, ◌+◌, ℕ, zero, suc, List, [], ◌∷◌, true, false, cond, filter, length, get_or, take, drop, refl, sym}
use Rattle.std.proofs.Common.{ap, ◌∙◌, arith, Bool, pos, not, ◌&&◌, ◌-◌, inl, inr, is_lt, nat_cmp}
use Rattle.std.proofs.lemmas.{Bool.{Decides.nat_tests, cases_lt, ltb-true, ltb-false, leb-true, leb-false}, Grind.common_steps}
use Rattle.std.specs.{Prelude.{nat_lt, nat_le}, List.Sorted.{ties, IsStableBy, IsPartitionPoint}}
use Rattle.graph_types.specs.declared.ids.{Edge.Edge}
use Rattle.graph_version.specs.InEdges.{edges_into, leads_into}

is_other : (a t : ℕ) → t < a → (a == t) ≡ false
is_other a t gt = grind (arith, nat_tests)

is_less : (a t : ℕ) → a < t → (a == t) ≡ false
is_less a t lt = grind (arith, nat_tests)

is_same : (a t : ℕ) → a ≡ t → (a == t) ≡ true
is_same a t e = grind (arith, nat_tests)

module _ {X : Type 0} (n : X → ℕ) (t : ℕ) where
  -- from a place on stand so many of one number, where those before are less and those behind are greater: they are all of it
  pub run_is : (xs : List X) (b m : ℕ) → ((k : ℕ) (d : X) → k < b → k < length xs → n (get_or xs k d) < t)
      → ((k : ℕ) (d : X) → b ≤ k → k < b + m → k < length xs → n (get_or xs k d) ≡ t)
      → ((k : ℕ) (d : X) → b + m ≤ k → k < length xs → t < n (get_or xs k d))
      → take m (drop b xs) ≡ filter (λ x. n x == t) xs
  run_is [] b m less same more = grind (arith, common_steps)
  run_is (x ∷ xs) zero zero less same more =
      run_is xs zero zero (λ k d lt l. absurd (omega arith)) (λ k d le lt l. absurd (omega arith))
      (λ k d le l. more (suc k) d (omega arith) (omega arith))
      ∙ sym (ap (λ c. cond c (x ∷ filter (λ x. n x == t) xs) (filter (λ x. n x == t) xs)) (is_other (n x) t (more zero x (omega arith) (omega arith))))
  run_is (x ∷ xs) zero (suc m) less same more =
      ap (λ l. x ∷ l)
      (run_is xs zero m (λ k d lt l. absurd (omega arith)) (λ k d le lt l. same (suc k) d (omega arith) (omega arith) (omega arith))
      (λ k d le l. more (suc k) d (omega arith) (omega arith)))
      ∙ sym (ap (λ c. cond c (x ∷ filter (λ x. n x == t) xs) (filter (λ x. n x == t) xs))
      (is_same (n x) t (same zero x (omega arith) (omega arith) (omega arith))))
  run_is (x ∷ xs) (suc b) m less same more =
      run_is xs b m (λ k d lt l. less (suc k) d (omega arith) (omega arith))
      (λ k d le lt l. same (suc k) d (omega arith) (omega arith) (omega arith))
      (λ k d le l. more (suc k) d (omega arith) (omega arith))
      ∙ sym (ap (λ c. cond c (x ∷ filter (λ x. n x == t) xs) (filter (λ x. n x == t) xs)) (is_less (n x) t (less zero x (omega arith) (omega arith))))

-- the first place where a number isn't less, and the first where it is greater
module _ {X : Type 0} (n : X → ℕ) (t : ℕ) (xs : List X) (b e : ℕ) (in_b : b ≤ length xs) (in_e : e ≤ length xs)
    (at_b : IsPartitionPoint (λ y. nat_lt (n y) t ≡ true) (λ y. nat_lt (n y) t ≡ false) xs b)
    (at_e : IsPartitionPoint (λ y. nat_le (n y) t ≡ true) (λ y. nat_le (n y) t ≡ false) xs e) where
  -- stand in this order
  pub in_order : b ≤ e
  in_order = elim (cases_lt e b) [
    | inl lt ↦ elim xs as (λ l. e < b → b ≤ length l → IsPartitionPoint (λ y. nat_lt (n y) t ≡ true) (λ y. nat_lt (n y) t ≡ false) l b
        → IsPartitionPoint (λ y. nat_le (n y) t ≡ true) (λ y. nat_le (n y) t ≡ false) l e → b ≤ e) [
          | [] ↦ λ lt in' at to. omega arith
          | x ∷ l ↦ λ lt in' at to.
              let less = ltb-true (n (get_or (x ∷ l) e x)) t (at.0 e x (omega arith) lt) in
              let more = leb-false (n (get_or (x ∷ l) e x)) t (to.1 e x (omega arith) (omega arith)) in
              absurd (omega arith)
        ] lt in_b at_b at_e
    | inr ge ↦ ge
  ]

  -- and between them stand those of the number
  pub between_is : take (e - b) (drop b xs) ≡ filter (λ x. n x == t) xs
  between_is =
      let order = in_order in
      run_is n t xs b (e - b)
      (λ k d lt l. ltb-true (n (get_or xs k d)) t (at_b.0 k d (omega arith) lt))
      (λ k d le lt l.
      let least = ltb-false (n (get_or xs k d)) t (at_b.1 k d le l) in
      let most = leb-true (n (get_or xs k d)) t (at_e.0 k d (omega arith) (omega arith)) in
      omega arith)
      (λ k d le l. leb-false (n (get_or xs k d)) t (at_e.1 k d (omega arith) l))

-- two tests of a target by its place among others, and by its number
tie_is : (a t : ℕ) → (not (is_lt (nat_cmp t a)) && not (is_lt (nat_cmp a t))) ≡ (a == t)
tie_is a t = grind (arith, common_steps, nat_tests)

-- an edge to a target
abbrev edge_to : ℕ → Edge
edge_to t = record {
  kind = record { 0 = 0 };
  source = record { 0 = 0 };
  target = record { 0 = t };
  weight = pos 0;
  first = 0;
  recent = 0;
}

-- a stable sort by targets leaves the edges to each target in their order
pub sorted_into : (xs ys : List Edge) → IsStableBy (λ (x : Edge) (y : Edge). is_lt (nat_cmp x.target.0 y.target.0)) xs ys → (t : ℕ)
    → edges_into t ys ≡ edges_into t xs
sorted_into xs ys stable t =
    ap (λ (p : Edge → Bool). filter p ys) (λ i e. sym (tie_is e.target.0 t) i)
    ∙ stable (edge_to t)
    ∙ ap (λ (p : Edge → Bool). filter p xs) (λ i e. tie_is e.target.0 t i)
