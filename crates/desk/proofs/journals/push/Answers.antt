use Rattle.desk.proofs.journals.push.Goals as goal

-- Its search is long where it fails.
pub returns-clause-entered : goal.returns-clause-entered
returns-clause-entered c = c.in-Ok.ensures.items
