-- Whether a number is in one of two lists, whether a batch exceeds a limit, and degrees over edges listed each once.
use Rattle.std.proofs.Common.{◌≡◌, ℕ, ◌+◌, ◌≤◌, true, false, cond, List, [], ◌∷◌, ◌++◌, length, ◌==◌, All, refl, subst, arith, ap}
use Rattle.std.proofs.lemmas.{Bool.eqb-true, Grind.common_steps, List.Elements.{All-head, All-tail}}
use Rattle.std.proofs.{Common.{◌||◌, map}, lemmas.{Bool.{eq-eqb, or_right}, List.Elements.{All-nil, All-cons}}}
use Rattle.graph_types.specs.{Answer.degree_at, Degrees.listed_degree, Graph.Graph, Refusals.MeetsNeitherLimit, Step.after_all}
use Rattle.graph_types.specs.declared.{batches.NamedOp.NamedOp, ids.{Edge.Edge, Filter.Filter}}
use Rattle.graph_types.proofs.{Folds.{count_entries, weight_entries}, LimitsKept.limits_after_all, Sums.count_more}
use Rattle.graph_types.proofs.Times.{times, not_in}
use Rattle.edge_block.specs.Slots.{BlockView}
use Rattle.vertex_names.specs.Book.{Book}
use Rattle.graph_version.specs.{Edges.AreEachOnce, Kept.{vertex_book, kind_book}, Versions.is_in}

pub in_left : (m : ℕ) (xs ys : List ℕ) → is_in m xs ≡ true → is_in m (xs ++ ys) ≡ true
in_left m [] ys is = cc
in_left m (x ∷ xs) ys is = grind (arith, common_steps)

pub in_right : (m : ℕ) (xs ys : List ℕ) → is_in m ys ≡ true → is_in m (xs ++ ys) ≡ true
in_right m [] ys is = is
in_right m (x ∷ xs) ys is = grind (arith, common_steps, in_right m xs ys is)

-- books within their limits are those of a batch that meets neither
pub neither_limit : (ops : List NamedOp) (g : Graph) (names kinds : Book) → names ≡ vertex_book (after_all ops g)
    → kinds ≡ kind_book (after_all ops g)
    → length names.names ≤ names.limit → length kinds.names ≤ kinds.limit → MeetsNeitherLimit ops g
neither_limit ops g names kinds names_are kinds_are few_names few_kinds = grind (arith, common_steps, limits_after_all)

pub unlisted_here : (m : ℕ) (numbers before : List ℕ) → All (λ n. is_in n before ≡ false) numbers → 1 ≤ times m numbers
    → times m before ≡ 0
unlisted_here m [] before all some = absurd (omega (arith, some))
unlisted_here m (n ∷ numbers) before all some =
    let c = count_more (λ y. y == m) n numbers in
    elim (n == m) as (λ b. n == m ≡ b → times m (n ∷ numbers) ≡ cond b 1 0 + times m numbers → times m before ≡ 0) [
      | true ↦ λ t e. subst (λ k. times k before ≡ 0) (eqb-true n m t)
          (not_in n before (All-head (λ n. is_in n before ≡ false) n numbers all))
      | false ↦ λ t e. unlisted_here m numbers before (All-tail (λ n. is_in n before ≡ false) n numbers all)
          (omega (arith, some, e))
    ] refl c

pub content_degree : (f : Filter) (g : Graph) (es : List Edge) (v : ℕ) → AreEachOnce es g → listed_degree f es v ≡ degree_at f g v
content_degree f g es v each = grind (arith, common_steps, count_entries, weight_entries)

module _ (f g : BlockView → ℕ) (n : ℕ) where
  -- those with taken numbers
  pub written_births : (bs : List BlockView) → ((b : BlockView) → is_in b.number (map (λ b. b.number) bs) ≡ true → g b ≡ n)
      → All (λ b. g b ≡ n) bs
  written_births [] each = All-nil (λ b. g b ≡ n)
  written_births (b ∷ bs) each =
      let numbers : List ℕ = map (λ (b : BlockView). b.number) bs in
      All-cons (λ b. g b ≡ n) b bs
      (each b (ap (λ t. t || is_in b.number numbers) (eq-eqb b.number b.number refl)))
      (written_births bs (λ c is. each c (or_right (b.number == c.number) (is_in c.number numbers) is)))
