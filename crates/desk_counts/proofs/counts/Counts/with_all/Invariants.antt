use Rattle.std.proofs.Common.{◌≡◌, ◌+◌, take, count_by, sum_by}
use Rattle.desk_counts.specs.Counted.{was_inserted, was_updated, was_removed, was_absent, was_overflow, wrapped}
use Rattle.graph_types.specs.Outcomes.{expired_in}
use Rattle.desk_counts.proofs.counts.Counts.with_all.Given as goal

abbrev pub invariant-loop-outcome : goal.invariant-loop-outcome
invariant-loop-outcome l = record {
  version : l.counts.version ≡ l.version;
  inserted : l.counts.inserted ≡ wrapped (l.fn.self.inserted + count_by was_inserted (take l.outcome-index l.outcomes));
  updated : l.counts.updated ≡ wrapped (l.fn.self.updated + count_by was_updated (take l.outcome-index l.outcomes));
  removed : l.counts.removed ≡ wrapped (l.fn.self.removed + count_by was_removed (take l.outcome-index l.outcomes));
  absent : l.counts.absent ≡ wrapped (l.fn.self.absent + count_by was_absent (take l.outcome-index l.outcomes));
  overflowed : l.counts.overflowed ≡ wrapped (l.fn.self.overflowed + count_by was_overflow (take l.outcome-index l.outcomes));
  expired : l.counts.expired ≡ wrapped (l.fn.self.expired + sum_by expired_in (take l.outcome-index l.outcomes));
}
