use Rattle.std.proofs.Common.{ℕ, List, arith}
use Rattle.graph_types.specs.declared.batches.Outcome.{Outcome, TheVariants.{Inserted, Updated, Removed, Absent, Overflow}}
use Rattle.graph_types.specs.Outcomes.{expired_in}
use Rattle.graph_types.proofs.OutcomeSteps.{count_next, any_next, sum_next}
use Rattle.script_lines.specs.Lines.{is_expired, is_outcome}
use Rattle.script_lines.proofs.counts.counts_in.Goals as goal

pub loop-outcome-preserved : goal.loop-outcome-preserved
loop-outcome-preserved c =
    let xs : List Outcome = c.args.outcomes.now in
    let i : ℕ = c.loop-outcome.outcome-index in
    let so_far = c.loop-outcome.invariant in
    let step = c.with-counts.ensures in
    record {
      inserted = count_next (is_outcome Inserted) xs i _ _ _ c.loop-outcome-test.true so_far.inserted step.inserted;
      updated = count_next (is_outcome Updated) xs i _ _ _ c.loop-outcome-test.true so_far.updated step.updated;
      removed = count_next (is_outcome Removed) xs i _ _ _ c.loop-outcome-test.true so_far.removed step.removed;
      absent = count_next (is_outcome Absent) xs i _ _ _ c.loop-outcome-test.true so_far.absent step.absent;
      overflow = count_next (is_outcome Overflow) xs i _ _ _ c.loop-outcome-test.true so_far.overflow step.overflow;
      has_expiry = any_next is_expired xs i _ _ _ c.loop-outcome-test.true so_far.has_expiry step.has_expiry;
      expired = sum_next expired_in xs i _ _ _ c.loop-outcome-test.true so_far.expired step.expired;
      few = omega (arith, so_far.few, step.few);
    }
