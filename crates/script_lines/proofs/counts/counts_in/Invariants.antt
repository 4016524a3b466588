use Rattle.std.{proofs.Common.{◌≡◌, ◌-◌, ◌*◌, ◌^◌, ◌≤◌, take, count_by}, specs.List.{list_any, sum_by}}
use Rattle.graph_types.specs.declared.batches.Outcome.TheVariants.{Inserted, Updated, Removed, Absent, Overflow}
use Rattle.graph_types.specs.Outcomes.{expired_in}
use Rattle.script_lines.specs.Lines.{is_expired, is_outcome}
use Rattle.script_lines.proofs.counts.counts_in.Given as goal

abbrev pub invariant-loop-outcome : goal.invariant-loop-outcome
invariant-loop-outcome l = record {
  inserted : l.counts.inserted ≡ count_by (is_outcome Inserted) (take l.outcome-index l.outcomes);
  updated : l.counts.updated ≡ count_by (is_outcome Updated) (take l.outcome-index l.outcomes);
  removed : l.counts.removed ≡ count_by (is_outcome Removed) (take l.outcome-index l.outcomes);
  absent : l.counts.absent ≡ count_by (is_outcome Absent) (take l.outcome-index l.outcomes);
  overflow : l.counts.overflow ≡ count_by (is_outcome Overflow) (take l.outcome-index l.outcomes);
  has_expiry : l.counts.has_expiry ≡ list_any is_expired (take l.outcome-index l.outcomes);
  expired : l.counts.expired ≡ sum_by expired_in (take l.outcome-index l.outcomes);
  few : l.counts.expired ≤ (2 ^ 64 - 1) * l.outcome-index;
}
