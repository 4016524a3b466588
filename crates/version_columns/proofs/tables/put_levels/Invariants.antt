use Rattle.std.proofs.Common.{◌≡◌, map, take}
use Rattle.std.specs.Prelude.{unwrap_or}
use Rattle.version_columns.specs.Views.{no_number}
use Rattle.version_columns.proofs.tables.put_levels.Given as goal

abbrev pub invariant-loop-place : goal.invariant-loop-place
invariant-loop-place l = take l.place l.column ≡ map (λ level. unwrap_or level no_number) (take l.place l.levels)
