use Rattle.std.proofs.Common.{rules}
use Rattle.desk.proofs.desks.Desk.journal.Goals as goal

pub returns-clause-entries : goal.returns-clause-entries
returns-clause-entries c = search rules

pub returns-clause-none : goal.returns-clause-none
returns-clause-none c = search rules
