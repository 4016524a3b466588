-- Pairs of numbers: in order, and equal.
use Rattle.std.proofs.Common.{◌≡◌, ℕ, Bool, true, not, ◌&&◌, ◌≢◌, List, [], ◌∷◌, ◌==◌, sym, ap, ◌∙◌, arith}
use Rattle.std.proofs.lemmas.Cmp.{then_total, on_total, nat_cmp_total, and_equiv, on_equiv, nat_eq_equiv, tied_itself}
use Rattle.std.proofs.lemmas.{Grind.common_steps, List.{Elements.{All-weaker, All-from_recursion}, Kept.AllPairs-cons}}
use Rattle.std.specs.{Cmp.{IsTotalOrder, IsEquivalence}, List.Sorted.IsStrictlySortedBy}
use Rattle.std.specs.{Ordering.{ordering_then, nat_cmp, eq_by_cmp}, Prelude.AllPairs, declared.cmp.Ordering.Ordering}
use Rattle.std.specs.declared.cmp.Ordering.TheVariants.{Less}
use Rattle.graph_types.proofs.Numbers.{both_tied, nat_ties}

-- pairs in order
abbrev pub pair_cmp : ℕ × ℕ → ℕ × ℕ → Ordering
pair_cmp a b = ordering_then (nat_cmp a.0 b.0) (nat_cmp a.1 b.1)

pub pairs_total : IsTotalOrder pair_cmp
pairs_total = then_total (on_total (λ (p : ℕ × ℕ). p.0) nat_cmp_total) (on_total (λ (p : ℕ × ℕ). p.1) nat_cmp_total)

abbrev pub same_place : ℕ × ℕ → ℕ × ℕ → Bool
same_place a b = (a.0 == b.0) && (a.1 == b.1)

pub pair_ties : (a b : ℕ × ℕ) → same_place a b ≡ eq_by_cmp pair_cmp a b
pair_ties a b = both_tied (a.0 == b.0) (a.1 == b.1) (nat_cmp a.0 b.0) (nat_cmp a.1 b.1) (nat_ties a.0 b.0) (nat_ties a.1 b.1)

pub pairs_equiv : IsEquivalence same_place
pairs_equiv = and_equiv (on_equiv (λ (p : ℕ × ℕ). p.0) nat_eq_equiv) (on_equiv (λ (p : ℕ × ℕ). p.1) nat_eq_equiv)

pub pair_same : (a b : ℕ × ℕ) → same_place a b ≡ true → a ≡ b
pair_same a b t = grind (arith, common_steps)

pub sorted_apart : (xs : List (ℕ × ℕ)) → IsStrictlySortedBy pair_cmp xs → AllPairs (λ a b. a ≢ b) xs
unfolding IsStrictlySortedBy
sorted_apart [] s = λ i j d lt l. absurd (omega arith)
sorted_apart (x ∷ xs) s = AllPairs-cons (λ a b. a ≢ b) x xs
    (All-weaker (λ y. pair_cmp x y ≡ Less) (λ y. x ≢ y)
    (λ y less same. let tied = tied_itself pairs_total x in let both = sym less ∙ ap (pair_cmp x) (sym same) ∙ tied in cc) xs
    (All-from_recursion (λ y. pair_cmp x y ≡ Less) xs s.0))
    (sorted_apart xs s.1)

abbrev pub is_proper : ℕ × ℕ → Bool
is_proper arc = not (arc.0 == arc.1)
