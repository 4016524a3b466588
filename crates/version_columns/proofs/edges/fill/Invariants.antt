use Rattle.std.proofs.Common.{◌≡◌, ◌-◌, replicate}
use Rattle.version_columns.specs.Rows.{with_values}
use Rattle.version_columns.proofs.edges.fill.Given as goal

abbrev pub invariant-loop-place : goal.invariant-loop-place
invariant-loop-place l =
    with_values l.place (replicate (l.end - l.place) l.number) l.column
    ≡ with_values l.at (replicate (l.end - l.at) l.number) l.fn.column
