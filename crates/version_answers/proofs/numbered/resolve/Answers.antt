use Rattle.std.proofs.Common.{rules}
use Rattle.version_answers.proofs.numbered.resolve.Goals as goal

-- Its search is long where it fails.
pub returns-then-filter-clause-refused : goal.returns-then-filter-clause-refused
returns-then-filter-clause-refused c = search rules
