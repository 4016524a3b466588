use Rattle.graph_version.proofs.versions.Version.next_old_row.Goals as goal

pub returns-in-None-clause-version : goal.returns-in-None-clause-version
returns-in-None-clause-version c = rw (← c.self.view_is) c.self.invariant.version

pub returns-in-Some-clause-version : goal.returns-in-Some-clause-version
returns-in-Some-clause-version c = rw (← c.self.view_is) c.self.invariant.version
