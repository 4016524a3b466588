use Rattle.std.proofs.Common.{◌≡◌, length}
use Rattle.version_columns.specs.Searches.{has_text}
use Rattle.version_columns.proofs.searches.has_text.Given as goal

abbrev pub invariant-loop-rest : goal.invariant-loop-rest
invariant-loop-rest l = has_text l.text l.rest ≡ has_text l.text l.name

abbrev pub decreases-loop-rest : goal.decreases-loop-rest
decreases-loop-rest l = length l.rest
