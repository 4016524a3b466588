-- The sources that later batches touched, as far as a search has come; and the bounds by which it passes over others.
use Rattle.std.proofs.Common.{◌≡◌, ℕ, ◌<◌, ◌≤◌, ◌==◌, Bool, false, ◌||◌, ◌&&◌, List, [], ◌∷◌, ◌++◌, ◌+◌, ◌/◌, length, max, set, sym, subst, ◌∙◌, arith}
use Rattle.std.proofs.lemmas.{Grind.common_steps, List.{Folds.list_any-append, Quantifiers.all_pairs_push}}
use Rattle.std.specs.{Prelude.{All, nat_lt}}
use Rattle.graph_types.specs.declared.ids.VertexId.{VertexId}
use Rattle.owned_desk.specs.Touched.{AreBounds, AreTouchedBelow, AreTouchedSince, is_source, number_at}

-- One source

passed : (s i j x number : ℕ) → i ≤ j → (i ≤ s → s < j → x ≤ number) → (nat_lt s i && nat_lt number x) ≡ (nat_lt s j && nat_lt number x)
passed s i j x number onward none = grind (arith, common_steps)

found : (s i x number : ℕ) (was : Bool) → was ≡ (nat_lt s i && nat_lt number x) → (s ≡ i → number < x)
    → (was || ((s == i) || false)) ≡ (nat_lt s (i + 1) && nat_lt number x)
found s i x number was is more = grind (arith, common_steps)

ended : (s end x number : ℕ) → (end ≤ s → x ≤ number) → (nat_lt s end && nat_lt number x) ≡ nat_lt number x
ended s end x number none = grind (arith, common_steps)

below_more : (i : ℕ) (sources : List VertexId) → All (λ v. v.0 < i) sources
    → All (λ v. v.0 < i + 1) (sources ++ record { 0 = i } ∷ [])
below_more i sources below = grind (arith, common_steps)

-- A search

-- past sources that no later batch touched
pub none_since : (i j number : ℕ) (numbers : List ℕ) (sources : List VertexId) → i ≤ j
    → ((s : ℕ) → i ≤ s → s < j → number_at numbers s ≤ number) → AreTouchedBelow i number numbers sources
    → AreTouchedBelow j number numbers sources
none_since i j number numbers sources onward none is = record {
  rising = is.rising;
  below = λ k d within. let lower = is.below k d within in omega (arith, lower, onward);
  are = λ s. is.are s ∙ passed s i j (number_at numbers s) number onward (none s);
}

-- past one that a later batch touched
pub one_since : (i number : ℕ) (numbers : List ℕ) (sources : List VertexId) → number < number_at numbers i
    → AreTouchedBelow i number numbers sources → AreTouchedBelow (i + 1) number numbers (sources ++ record { 0 = i } ∷ [])
one_since i number numbers sources more is = record {
  rising = all_pairs_push (λ s t. s.0 < t.0) sources (record { 0 = i }) is.rising is.below;
  below = below_more i sources is.below;
  are = λ s.
      list_any-append (λ v. s == v.0) sources (record { 0 = i } ∷ [])
      ∙ found s i (number_at numbers s) number (is_source sources s) (is.are s)
      (λ same. subst (λ n. number < number_at numbers n) (sym same) more);
}

-- up to where none was touched any more
pub all_since : (end number : ℕ) (numbers : List ℕ) (sources : List VertexId) → ((s : ℕ) → end ≤ s → number_at numbers s ≤ number)
    → AreTouchedBelow end number numbers sources → AreTouchedSince number numbers sources
all_since end number numbers sources none is = record {
  rising = is.rising;
  are = λ s. is.are s ∙ ended s end (number_at numbers s) number (none s);
}

-- Bounds

-- once a source has a number
pub bounds_stay : (bounds numbers : List ℕ) (at number : ℕ) → at < length numbers → at / 64 < length bounds → AreBounds bounds numbers
    → AreBounds (set bounds (at / 64) (max (number_at bounds (at / 64)) number)) (set numbers at number)
bounds_stay bounds numbers at number low group are s = grind (arith, common_steps, are s)
