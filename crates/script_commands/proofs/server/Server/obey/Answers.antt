use Rattle.script_commands.proofs.server.Server.obey.Goals as goal

pub returns-in_ok-collect-in-Collect-clause-obeys : goal.returns-in_ok-collect-in-Collect-clause-obeys
returns-in_ok-collect-in-Collect-clause-obeys g c = rw c.in-Collect.is c.in_ok-collect-in-Collect.ensures.obeys

pub returns-in_ok-commit-in-Commit-clause-obeys : goal.returns-in_ok-commit-in-Commit-clause-obeys
returns-in_ok-commit-in-Commit-clause-obeys g c = rw c.in-Commit.is c.in_ok-commit-in-Commit.ensures.obeys

pub push-requires-clause-valid : goal.push-requires-clause-valid
push-requires-clause-valid g c = rw c.in-Op.is at c.requires.valid

pub returns-in-Rebase-clause-stops : goal.returns-in-Rebase-clause-stops
returns-in-Rebase-clause-stops g c = rw c.in-Rebase.is c.rebase.ensures.stops
