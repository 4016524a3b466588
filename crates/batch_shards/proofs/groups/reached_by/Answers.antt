use Rattle.std.proofs.{Common.{◌≡◌, ℕ, ◌+◌, ◌<◌, List, sym, subst, arith, ap, get_or, take, length}, lemmas.List.length_push}
use Rattle.batch_shards.{specs.Spending.latest, proofs.Young.latest_more, proofs.Young.reached_push}
use Rattle.batch_shards.proofs.groups.reached_by.Goals as goal

pub loop-step-preserved : goal.loop-step-preserved
loop-step-preserved c =
    let k : ℕ = c.loop-step.step-index in
    let more = latest_more c.args.steps.now k c.loop-step-test.true in
    let next : c.max-latest.result ≡ latest (take (k + 1) c.args.steps.now) = omega (
      arith,
      more,
      c.max-latest.ensures,
      c.expiry_time.ensures,
      c.loop-step.invariant.greatest,
    ) in
    record {
      greatest = next;
      long = omega (
        arith,
        ap length c.in_ok-push.ensures.items,
        length_push c.loop-step.reached.items c.max-latest.result,
        c.loop-step.invariant.long,
      );
      are = subst (λ (v : List ℕ). (j : ℕ) → j < k + 1 → get_or v j 0 ≡ latest (take (j + 1) c.args.steps.now))
          (sym c.in_ok-push.ensures.items)
          (reached_push c.args.steps.now c.loop-step.reached.items k c.max-latest.result c.loop-step.invariant.long next
          c.loop-step.invariant.are);
    }

pub returns : goal.returns
returns c = record {
  long = omega (arith, c.loop-step.invariant.long, c.loop-step-test.false, c.loop-step.auto.step-index-end);
  are = λ k lt. c.loop-step.invariant.are k (omega (arith, c.loop-step-test.false, lt));
}
