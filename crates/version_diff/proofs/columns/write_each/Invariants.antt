use Rattle.std.proofs.Common.{◌≡◌, drop}
use Rattle.version_diff.specs.Columns.{diff_columns, mark_columns, with_differences}
use Rattle.version_diff.proofs.columns.write_each.Given as goal

abbrev pub invariant-loop-at : goal.invariant-loop-at
invariant-loop-at l =
    with_differences l.at (drop l.at l.differences) (diff_columns l.states l.kinds l.sources l.targets
    (mark_columns l.weights_before l.firsts_before l.recents_before) (mark_columns l.weights_after l.firsts_after l.recents_after))
    ≡ with_differences 0 l.differences (diff_columns l.fn.states l.fn.kinds l.fn.sources l.fn.targets
    (mark_columns l.fn.weights_before l.fn.firsts_before l.fn.recents_before) (mark_columns l.fn.weights_after l.fn.firsts_after l.fn.recents_after))
