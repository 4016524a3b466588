use Rattle.std.proofs.Common.{◌≡◌, ◌++◌}
use Rattle.graph_version.specs.{Lending.numbers_left, Rows.{blocks_of, numbers_of}}
use Rattle.desk.proofs.reopening.numbers_in.Given as goal

abbrev pub invariant-loop-number : goal.invariant-loop-number
invariant-loop-number l = l.numbers.items ++ numbers_left l.number-iterator ≡ numbers_of (blocks_of l.version.rows)
