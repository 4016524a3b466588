use Rattle.std.proofs.Common.{◌≡◌, ◌-◌, ◌≤◌, ◌<◌, ℕ, false, length}
use Rattle.graph_version.specs.{Ages.is_old_row, Rows.row_of}
use Rattle.graph_version.proofs.rows.Rows.next_old.Given as goal

abbrev pub invariant-loop-source : goal.invariant-loop-source
invariant-loop-source l = record {
  from : l.fn.from.0 ≤ l.source;
  young : (s : ℕ) → l.fn.from.0 ≤ s → s < l.source → is_old_row l.time (row_of l.self s) ≡ false;
}

abbrev pub decreases-loop-source : goal.decreases-loop-source
decreases-loop-source l = length l.self - l.source
