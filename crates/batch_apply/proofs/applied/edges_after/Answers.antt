use Rattle.std.proofs.Common.{◌≡◌, ◌+◌, ◌<◌, ◌≤◌, ◌%◌, ◌^◌, ℕ, List, length, take, get_or, cond, count_by, arith, subst}
use Rattle.std.{specs.List.sum_by, proofs.lemmas.List.Sums.sum_by_more, proofs.lemmas.List.take_all}
use Rattle.graph_types.specs.declared.batches.Outcome.{Outcome}
use Rattle.batch_apply.specs.Applied.{is_inserted, taken_away}
use Rattle.batch_apply.proofs.applied.edges_after.Goals as goal

-- as many edges as before with those inserted, where those taken away are added, after the first outcomes
abbrev IsLeft : List Outcome → ℕ → ℕ → ℕ → Type 0
IsLeft xs i before now = (now + sum_by taken_away (take i xs)) % 2 ^ 64 ≡ (before + count_by is_inserted (take i xs)) % 2 ^ 64

one_more : (xs : List Outcome) (i before now after : ℕ) (d : Outcome) → i < length xs → IsLeft xs i before now
    → (after + taken_away (get_or xs i d)) % 2 ^ 64 ≡ (now + cond (is_inserted (get_or xs i d)) 1 0) % 2 ^ 64
    → IsLeft xs (i + 1) before after
one_more xs i before now after d within so_far step = omega (
  arith,
  so_far,
  step,
  sum_by_more taken_away xs i d within,
  sum_by_more (λ (o : Outcome). cond (is_inserted o) 1 0) xs i d within,
)

all_left : (xs : List Outcome) (i before now after : ℕ) → length xs ≤ i → IsLeft xs i before now → now < 2 ^ 64
    → after + sum_by taken_away xs ≡ before + count_by is_inserted xs → now ≡ after % 2 ^ 64
all_left xs i before now after over so_far fits total =
    let left = subst (λ (ys : List Outcome). (now + sum_by taken_away ys) % 2 ^ 64 ≡ (before + count_by is_inserted ys) % 2 ^ 64)
    (take_all i xs over) so_far in
    omega (arith, left, total)

pub loop-outcome-preserved : goal.loop-outcome-preserved
loop-outcome-preserved c = record {
  so_far = one_more c.args.outcomes.now c.loop-outcome.outcome-index c.args.before c.loop-outcome.edges _ _
      c.loop-outcome-test.true c.loop-outcome.invariant.so_far c.edges_then-edges.ensures.left;
  fits = c.edges_then-edges.ensures.fits;
}

pub returns : goal.returns
returns c after total = all_left c.args.outcomes.now c.loop-outcome.outcome-index c.args.before c.loop-outcome.edges after
    c.loop-outcome-test.false c.loop-outcome.invariant.so_far c.loop-outcome.invariant.fits total
