use Rattle.std.proofs.Common.{ℕ, List, ap, ◌∙◌}
use Rattle.graph_types.specs.declared.batches.Outcome.{Outcome}
use Rattle.desk_counts.specs.Counted.{was_inserted, was_updated, was_removed, was_absent, was_overflow}
use Rattle.graph_types.specs.Outcomes.{expired_in}
use Rattle.graph_types.proofs.OutcomeSteps.{count_more, sum_more}
use Rattle.desk_counts.proofs.counts.Counts.with_all.Goals as goal

pub loop-outcome-preserved : goal.loop-outcome-preserved
loop-outcome-preserved c =
    let xs : List Outcome = c.args.outcomes.now in
    let i : ℕ = c.loop-outcome.outcome-index in
    let so_far = c.loop-outcome.invariant in
    let step = c.with-counts.ensures in
    let within = c.loop-outcome-test.true in
    record {
      version = ap (λ n. n.version) step ∙ so_far.version;
      inserted = count_more was_inserted xs i _ _ _ _ within so_far.inserted (ap (λ n. n.inserted) step);
      updated = count_more was_updated xs i _ _ _ _ within so_far.updated (ap (λ n. n.updated) step);
      removed = count_more was_removed xs i _ _ _ _ within so_far.removed (ap (λ n. n.removed) step);
      absent = count_more was_absent xs i _ _ _ _ within so_far.absent (ap (λ n. n.absent) step);
      overflowed = count_more was_overflow xs i _ _ _ _ within so_far.overflowed (ap (λ n. n.overflowed) step);
      expired = sum_more expired_in xs i _ _ _ _ within so_far.expired (ap (λ n. n.expired) step);
    }
