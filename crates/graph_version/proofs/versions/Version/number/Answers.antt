use Rattle.graph_version.proofs.versions.Version.number.Goals as goal

pub returns-clause-version : goal.returns-clause-version
returns-clause-version c = rw (← c.self.view_is) c.self.invariant.version
