use Rattle.std.{proofs.Common.{◌≡◌, ◌+◌, ◌<◌, ◌%◌, ◌^◌, take, count_by}, specs.List.sum_by}
use Rattle.batch_apply.specs.Applied.{is_inserted, taken_away}
use Rattle.batch_apply.proofs.applied.edges_after.Given as goal

abbrev pub invariant-loop-outcome : goal.invariant-loop-outcome
invariant-loop-outcome l = record {
  so_far : (l.edges + sum_by taken_away (take l.outcome-index l.outcomes)) % 2 ^ 64
      ≡ (l.before + count_by is_inserted (take l.outcome-index l.outcomes)) % 2 ^ 64;
  fits : l.edges < 2 ^ 64;
}
